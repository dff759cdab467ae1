use Rattle.std.proofs.Common.{◌≡◌, drop}
use Rattle.srm_verdicts.specs.Unsaid as spec
use Rattle.srm_verdicts.proofs.no_script.unsaid_of_entries.Given as goal

abbrev pub invariant-loop-entry : goal.invariant-loop-entry
invariant-loop-entry l = spec.unsaid_of_entries (drop l.entry-index l.entries) ≡ spec.unsaid_of_entries l.entries
