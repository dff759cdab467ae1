-- How a member with a board ends, and with which status.
use Rattle.std.specs.Prelude.{◌≡◌, ◌⊎◌, ℕ, Bool, true, false, Option, Some, None}
use Rattle.std.specs.declared.io.ErrorKind.{ErrorKind}
use Rattle.std.specs.declared.io.ErrorKind.TheVariants as kind
use Rattle.std.specs.declared.net.socket_addr.SocketAddr.{SocketAddr}
use Rattle.srm_script.specs.declared.fault.ScriptFault.TheVariants.{Memory}
use Rattle.srm_script.specs.declared.status.TheConstants.{WIRE_FAILED}
use Rattle.srm_script.specs.Statuses.{IsStatusBy}
use Rattle.srm_member.specs.declared.fault.MemberFault.TheVariants.{Script}
use Rattle.srm_member.specs.declared.fault.MemberFault.{MemberFault}
use Rattle.srm_member.specs.Statuses.{status_of_member}
use Rattle.srm_live.specs.declared.live_fault.TheConstants.{WAS_BEFORE}
use Rattle.srm_board.specs.declared.board_fault.BoardFault.{BoardFault}
use Rattle.srm_board.specs.declared.board_fault.BoardFault.TheVariants.{Member, Serving, WasBefore}

-- the status that the program ends with
abbrev pub status_of_board : BoardFault → ℕ
status_of_board (Member f) = status_of_member f
status_of_board (Serving address cause) = WIRE_FAILED
status_of_board WasBefore = WAS_BEFORE

-- a whole run has status 0, and any other that of its fault
abbrev pub IsBoardStatus : ℕ → Type 0
IsBoardStatus status = IsStatusBy status_of_board status

abbrev pub out_of_memory : BoardFault
out_of_memory = Member (Script Memory)

-- Why a board can't be served at an address, by what the system says: out of memory, or this cause.
abbrev pub fault_of_serve : SocketAddr → ErrorKind → BoardFault
fault_of_serve address kind.OutOfMemory = out_of_memory
fault_of_serve address cause = Serving address cause

-- What ended the run comes before all else. A whole one of a member that was in the session before isn't as it should be.
abbrev pub fault_of_end : Option MemberFault → Bool → Option BoardFault
fault_of_end (Some f) _ = Some (Member f)
fault_of_end None true = Some WasBefore
fault_of_end None false = None

-- the run was whole, as it should be or not
abbrev pub IsWholeEnd : Option BoardFault → Type 0
IsWholeEnd end = (end ≡ None) ⊎ (end ≡ Some WasBefore)
