-- The fault of `srm audit`, by the fault of what it calls.
use Rattle.std.specs.declared.io.ErrorKind.{ErrorKind}
use Rattle.std.specs.declared.io.ErrorKind.TheVariants as kind
use Rattle.srm_script.specs.declared.fault.ScriptFault.{ScriptFault}
use Rattle.srm_script.specs.declared.fault.ScriptFault.TheVariants as scripts
use Rattle.srm_played.specs.declared.fault.PictureFault.{PictureFault}
use Rattle.srm_played.specs.declared.fault.PictureFault.TheVariants as pictures
use Rattle.srm_verdicts.specs.declared.fault.AuditFault.{AuditFault}
use Rattle.srm_verdicts.specs.declared.fault.AuditFault.TheVariants.{NoScript, Output, Memory}
use Rattle.srm_verdicts.specs.declared.no_script.NoScript.{NoScript as WhyNone}
use Rattle.srm_verdicts.specs.declared.no_script.NoScript.TheVariants.{TooManyEvents, Unread}

-- why standard output can't be written, by what the system says
abbrev pub fault_of_kind : ErrorKind → AuditFault
fault_of_kind kind.OutOfMemory = Memory
fault_of_kind _ = Output

-- why a run's own script isn't read again
abbrev pub fault_of_script : ScriptFault → AuditFault
fault_of_script scripts.Memory = Memory
fault_of_script _ = NoScript Unread

-- why it isn't drawn
abbrev pub fault_of_picture : PictureFault → AuditFault
fault_of_picture (pictures.Script fault) = fault_of_script fault
fault_of_picture pictures.TooManyEvents = NoScript TooManyEvents

-- a run isn't a script or a picture: memory ran out, or none says it, for such a cause
abbrev pub IsUnsaid : (WhyNone → Type 0) → AuditFault → Type 0
IsUnsaid Why Memory = Unit {0}
IsUnsaid Why (NoScript why) = Why why
IsUnsaid Why fault = ⊥
