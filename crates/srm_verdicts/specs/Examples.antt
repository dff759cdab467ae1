-- The statuses that `srm audit` ends with, in examples.
use Rattle.std.specs.Prelude.{◌≡◌, [], ◌∷◌, map, refl}
use Rattle.srm_audited.specs.declared.verdict.Reason.TheVariants.{Roster}
use Rattle.srm_audited.specs.declared.verdict.Verdict.TheVariants.{NotHonest, Undecided}
use Rattle.srm_verdicts.specs.declared.fault.AuditFault.TheVariants.{Output, Memory}
use Rattle.srm_verdicts.specs.AuditStatuses.{status_of, status_of_fault}

statuses : map status_of (NotHonest Roster ∷ Undecided ∷ []) ≡ 6 ∷ 7 ∷ []
statuses = refl

statuses_of_faults : map status_of_fault (Output ∷ Memory ∷ []) ≡ 1 ∷ 4 ∷ []
statuses_of_faults = refl
