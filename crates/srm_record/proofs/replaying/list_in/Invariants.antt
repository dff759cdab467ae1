use Rattle.std.proofs.Common.{◌≡◌, take}
use Rattle.srm_record.specs.Takes.{list_in}
use Rattle.srm_record.proofs.replaying.list_in.Given as goal

abbrev pub invariant-loop-line : goal.invariant-loop-line
invariant-loop-line l = l.list.items ≡ list_in (take l.line-index l.lines) l.slot
