use Rattle.std.proofs.Common.{take}
use Rattle.srm_audited.specs.Verdicts.{AreGiven}
use Rattle.srm_audited.proofs.giving.first_ungiven.Given as goal

abbrev pub invariant-loop-got : goal.invariant-loop-got
invariant-loop-got l = AreGiven l.told (take l.got-index l.gots)
