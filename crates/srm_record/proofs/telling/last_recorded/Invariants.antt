use Rattle.std.proofs.Common.{◌≡◌, take}
use Rattle.srm_record.specs.Calls.{last_recorded}
use Rattle.srm_record.proofs.telling.last_recorded.Given as goal

abbrev pub invariant-loop-entry : goal.invariant-loop-entry
invariant-loop-entry l = l.last ≡ last_recorded l.made (take l.entry-index l.entries)
