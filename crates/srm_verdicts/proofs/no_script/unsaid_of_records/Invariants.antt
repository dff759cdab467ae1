use Rattle.std.proofs.Common.{◌≡◌, drop}
use Rattle.srm_verdicts.specs.Unsaid as spec
use Rattle.srm_verdicts.proofs.no_script.unsaid_of_records.Given as goal

abbrev pub invariant-loop-read : goal.invariant-loop-read
invariant-loop-read l = spec.unsaid_of_records l.usual (drop l.read-index l.records) ≡ spec.unsaid_of_records l.usual l.records
