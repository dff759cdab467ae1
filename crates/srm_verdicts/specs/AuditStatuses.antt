-- The status that `srm audit` ends with.
use Rattle.std.specs.Prelude.{ℕ}
use Rattle.srm_script.specs.declared.status.TheConstants.{FAILED, RAN_OUT}
use Rattle.srm_audited.specs.declared.verdict.Verdict.{Verdict}
use Rattle.srm_audited.specs.declared.verdict.Verdict.TheVariants.{Honest, NotHonest, Undecided}
use Rattle.srm_verdicts.specs.declared.status.TheConstants.{NOT_HONEST, UNDECIDED}
use Rattle.srm_verdicts.specs.declared.fault.AuditFault.{AuditFault}
use Rattle.srm_verdicts.specs.declared.fault.AuditFault.TheVariants.{Memory}

abbrev pub status_of : Verdict → ℕ
status_of (Honest t) = 0
status_of (NotHonest reason) = NOT_HONEST
status_of Undecided = UNDECIDED

abbrev pub status_of_fault : AuditFault → ℕ
status_of_fault Memory = RAN_OUT
status_of_fault _ = FAILED
