-- The status of a program whose arguments can't be read.
use Rattle.std.specs.Prelude.{ℕ}
use Rattle.std.specs.declared.io.ErrorKind.{ErrorKind}
use Rattle.std.specs.declared.io.ErrorKind.TheVariants as kind
use Rattle.srm_script.specs.declared.status.TheConstants.{WRONG_USAGE, RAN_OUT}
use Rattle.srm_arguments.specs.declared.fault.ArgumentFault.{ArgumentFault}
use Rattle.srm_arguments.specs.declared.fault.ArgumentFault.TheVariants.{NoText, Memory}

-- why arguments can't be read, by what the system says: out of memory, or else that one is no text
abbrev pub fault_of_kind : ErrorKind → ArgumentFault
fault_of_kind kind.OutOfMemory = Memory
fault_of_kind _ = NoText

abbrev pub status_of : ArgumentFault → ℕ
status_of NoText = WRONG_USAGE
status_of Memory = RAN_OUT
