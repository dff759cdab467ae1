use Rattle.std.proofs.Common.{◌≡◌, take}
use Rattle.srm_record.specs.Takes.{lent}
use Rattle.srm_member.specs.TakenText.{lists_of}
use Rattle.srm_member.proofs.recording.lists_of.Given as goal

abbrev pub invariant-loop-worker : goal.invariant-loop-worker
invariant-loop-worker l = lent l.lists.items ≡ take l.worker-index (lists_of l.worked)
