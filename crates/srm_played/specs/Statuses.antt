-- The status that the program ends with.
use Rattle.std.specs.Prelude.{ℕ}
use Rattle.srm_script.specs.declared.status.TheConstants.{FAILED}
use Rattle.srm_script.specs.Statuses as script
use Rattle.srm_script.specs.Statuses.{IsStatusBy}
use Rattle.srm_played.specs.declared.fault.PictureFault.{PictureFault}
use Rattle.srm_played.specs.declared.fault.PictureFault.TheVariants.{Script, TooManyEvents}

abbrev pub status_of : PictureFault → ℕ
status_of (Script fault) = script.status_of fault
status_of TooManyEvents = FAILED

-- the status is 0, or that of a fault
abbrev pub IsStatus : ℕ → Type 0
IsStatus status = IsStatusBy status_of status
