-- The status that the program ends with.
use Rattle.std.specs.Prelude.{◌≡◌, ◌⊎◌, ℕ}
use Rattle.std.specs.declared.io.ErrorKind.{ErrorKind}
use Rattle.std.specs.declared.io.ErrorKind.TheVariants as kind
use Rattle.srm_script.specs.declared.fault.ScriptFault.{ScriptFault}
use Rattle.srm_script.specs.declared.fault.ScriptFault.TheVariants.{Memory}
use Rattle.srm_script.specs.declared.status.TheConstants.{FAILED, RAN_OUT}

abbrev pub status_of : ScriptFault → ℕ
status_of Memory = RAN_OUT
status_of _ = FAILED

-- the status is 0, or what this makes of a fault
abbrev pub IsStatusBy : {F : Type 0} → (F → ℕ) → ℕ → Type 0
IsStatusBy {F} by status = (status ≡ 0) ⊎ ((fault : F) × (status ≡ by fault))

-- why a stream failed, by what the system says: out of memory, or else this fault
abbrev pub fault_of_kind : ErrorKind → ScriptFault → ScriptFault
fault_of_kind kind.OutOfMemory other = Memory
fault_of_kind _ other = other
