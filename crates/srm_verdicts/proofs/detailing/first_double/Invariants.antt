use Rattle.std.proofs.Common.{◌≡◌, drop}
use Rattle.srm_verdicts.specs.Details as spec
use Rattle.srm_verdicts.proofs.detailing.first_double.Given as goal

abbrev pub invariant-loop-one : goal.invariant-loop-one
invariant-loop-one l = spec.first_double l.one (drop l.one l.records) ≡ spec.first_double 0 l.records
