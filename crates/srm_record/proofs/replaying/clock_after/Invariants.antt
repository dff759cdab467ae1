use Rattle.std.proofs.Common.{◌≡◌, take}
use Rattle.srm_entries.specs.Entries.{last_moment}
use Rattle.srm_record.proofs.replaying.clock_after.Given as goal

abbrev pub invariant-loop-entry : goal.invariant-loop-entry
invariant-loop-entry l = l.clock ≡ last_moment l.initial.clock (take l.entry-index l.entries)
