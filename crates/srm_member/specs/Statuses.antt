-- How a member ends, and with which status.
use Rattle.std.specs.Prelude.{◌≡◌, ◌⊎◌, ℕ, Bool, true, false, List, Option, Some, None, Result, Ok, Err}
use Rattle.std.specs.Io.KnownBytes.{Keeps}
use Rattle.std.specs.declared.io.ErrorKind.{ErrorKind}
use Rattle.std.specs.declared.io.ErrorKind.TheVariants as kind
use Rattle.std.specs.declared.net.socket_addr.SocketAddr.{SocketAddr}
use Rattle.srm_script.specs.declared.fault.ScriptFault.{ScriptFault}
use Rattle.srm_script.specs.declared.fault.ScriptFault.TheVariants.{Memory as OutOfMemory}
use Rattle.srm_script.specs.declared.status.TheConstants.{FAILED, WRONG_USAGE, WIRE_FAILED, RAN_OUT}
use Rattle.srm_script.specs.Statuses.{status_of, IsStatusBy}
use Rattle.srm_node.specs.declared.fault.NodeFault.{NodeFault}
use Rattle.srm_node.specs.declared.fault.NodeFault.TheVariants.{Wire, Memory, Turns}
use Rattle.srm_node.specs.declared.working.WorkEnd.{WorkEnd}
use Rattle.srm_node.specs.declared.working.WorkEnd.TheVariants as end
use Rattle.srm_node.specs.declared.working.Worked.{Worked}
use Rattle.srm_udp.specs.declared.first_failure.WireFailure.{WireFailure}
use Rattle.srm_record.specs.declared.record_failure.Unwritten.{Unwritten}
use Rattle.srm_options.specs.declared.reply.Reply.{Reply}
use Rattle.srm_options.specs.declared.reply.Reply.TheVariants as reply
use Rattle.srm_guarded.specs.declared.key_file.KeyFileFault.{KeyFileFault}
use Rattle.srm_guarded.specs.declared.key_file.KeyFileFault.TheVariants as key
use Rattle.srm_member.specs.declared.fault.MemberFault.{MemberFault}
use Rattle.srm_member.specs.declared.fault.MemberFault.TheVariants as fault

abbrev is_memory : WorkEnd → Bool
is_memory end.Memory = true
is_memory _ = false

-- the worker ended because it was out of memory
abbrev pub lacks_memory : {L : Type 0} → Worked L → Bool
lacks_memory w = is_memory w.end

-- Why a run wasn't whole, by its end and whether a worker ran out of memory: out of memory comes first.
abbrev pub fault_of : Result (Unit {0}) NodeFault → Bool → Option MemberFault
fault_of _ true = Some (fault.Script OutOfMemory)
fault_of (Ok _) false = None
fault_of (Err Memory) false = Some (fault.Script OutOfMemory)
fault_of (Err Wire) false = Some fault.Wire
fault_of (Err Turns) false = Some fault.Turns

-- Why a run wasn't whole, by its fault, if it had one, and whether the list of each worker has its close: a list without it was cut short, since memory ran out.
abbrev pub fault_of_lists : Option MemberFault → Bool → Option MemberFault
fault_of_lists None false = Some (fault.Script OutOfMemory)
fault_of_lists run _ = run

-- Why a live run wasn't whole, by why the node's run wasn't and what befell its streams: out of memory comes first, then the run.
abbrev pub fault_of_live : Option MemberFault → Option ScriptFault → Option MemberFault
fault_of_live run (Some OutOfMemory) = Some (fault.Script OutOfMemory)
fault_of_live (Some f) _ = Some f
fault_of_live None (Some f) = Some (fault.Script f)
fault_of_live None None = None

-- Why an address can't be bound, by what the system says: out of memory, or this cause.
abbrev pub fault_of_bind : SocketAddr → ErrorKind → MemberFault
fault_of_bind address kind.OutOfMemory = fault.Script OutOfMemory
fault_of_bind address cause = fault.Binding address cause

-- Why a socket or a clock can't be made, by what the system says: out of memory, or another cause.
abbrev pub fault_of_binding : ErrorKind → MemberFault
fault_of_binding kind.OutOfMemory = fault.Script OutOfMemory
fault_of_binding _ = fault.Wire

-- the address is told if it is to be told at all
abbrev pub fault_of_binding_at : Option SocketAddr → ErrorKind → MemberFault
fault_of_binding_at (Some address) cause = fault_of_bind address cause
fault_of_binding_at None cause = fault_of_binding cause

-- the call that failed is told, where the wire failed and it is known
abbrev pub fault_with_call : Option WireFailure → MemberFault → MemberFault
fault_with_call (Some call) fault.Wire = fault.Call call
fault_with_call _ f = f

-- a record that isn't whole is told with its file and the cause, where they are known
abbrev pub fault_with_cause : Option Unwritten → MemberFault → MemberFault
fault_with_cause (Some cause) fault.Record = fault.Unrecorded cause
fault_with_cause _ f = f

-- A run's fault is told with a call that failed, or why its record isn't whole, or as it is; of a whole run none is told.
abbrev pub IsToldOf : Option MemberFault → Option MemberFault → Type 0
IsToldOf None told = told ≡ None
IsToldOf (Some f) told = (call : Option WireFailure) × (cause : Option Unwritten) × (told ≡ Some (fault_with_cause cause (fault_with_call call f)))

-- Why a whole run isn't recorded, by whether its file has the whole record: out of memory for what its workers took, or the record.
abbrev pub fault_of_record : {E : Type 0} → Result Bool E → Option MemberFault
fault_of_record (Ok true) = None
fault_of_record (Ok false) = Some fault.Record
fault_of_record (Err _) = Some (fault.Script OutOfMemory)

abbrev IsFaultOfRecord : Option MemberFault → Type 0
IsFaultOfRecord told = (told ≡ None) ⊎ (told ≡ Some fault.Record) ⊎ (told ≡ Some (fault.Script OutOfMemory))

-- what ended the run comes before that it isn't recorded
abbrev pub IsRecordedEnd : Option MemberFault → Option MemberFault → Type 0
IsRecordedEnd (Some f) told = told ≡ Some f
IsRecordedEnd None told = IsFaultOfRecord told

-- Why a key file can't be used: out of memory, or another cause.
abbrev pub fault_of_key : KeyFileFault → MemberFault
fault_of_key key.Memory = fault.Script OutOfMemory
fault_of_key cause = fault.Key cause

-- the status that the program ends with
abbrev pub status_of_member : MemberFault → ℕ
status_of_member (fault.Script f) = status_of f
status_of_member fault.Wire = WIRE_FAILED
status_of_member (fault.Binding address cause) = WIRE_FAILED
status_of_member (fault.Call call) = WIRE_FAILED
status_of_member fault.Turns = RAN_OUT
status_of_member (fault.Key cause) = FAILED
status_of_member fault.Record = FAILED
status_of_member (fault.Unrecorded cause) = FAILED

-- a whole run has status 0, and any other that of its fault
abbrev pub IsStatus : ℕ → Type 0
IsStatus status = IsStatusBy status_of_member status

-- What was asked for is shown, unless the output fails. A wrong line, a name that isn't found and out of memory each have a status.
abbrev pub StatusOf : Reply → ℕ → Type 0
StatusOf (reply.Help text) status = (status ≡ 0) ⊎ (status ≡ FAILED) ⊎ (status ≡ RAN_OUT)
StatusOf (reply.Wrong text) status = status ≡ WRONG_USAGE
StatusOf (reply.Unresolved text) status = status ≡ WIRE_FAILED
StatusOf reply.Memory status = status ≡ RAN_OUT

-- only the help or the version is printed to the output
abbrev pub KeepsUnlessHelp : Reply → Option (List ℕ) → Option (List ℕ) → Type 0
KeepsUnlessHelp (reply.Help text) old new = Unit {0}
KeepsUnlessHelp (reply.Wrong text) old new = Keeps old new
KeepsUnlessHelp (reply.Unresolved text) old new = Keeps old new
KeepsUnlessHelp reply.Memory old new = Keeps old new
