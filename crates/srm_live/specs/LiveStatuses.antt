-- How a live member ends, and with which status.
use Rattle.std.specs.Prelude.{◌≡◌, ◌⊎◌, ℕ, Bool, true, false, Option, Some, None}
use Rattle.srm_script.specs.declared.fault.ScriptFault.TheVariants.{Memory}
use Rattle.srm_script.specs.Statuses.{IsStatusBy}
use Rattle.srm_member.specs.declared.fault.MemberFault.{MemberFault}
use Rattle.srm_member.specs.declared.fault.MemberFault.TheVariants.{Script}
use Rattle.srm_member.specs.Statuses.{status_of_member}
use Rattle.srm_live.specs.declared.live_fault.LiveFault.{LiveFault}
use Rattle.srm_live.specs.declared.live_fault.LiveFault.TheVariants.{Member, WasBefore}
use Rattle.srm_live.specs.declared.live_fault.TheConstants.{WAS_BEFORE}

-- the status that the program ends with
abbrev pub status_of_live : LiveFault → ℕ
status_of_live (Member f) = status_of_member f
status_of_live WasBefore = WAS_BEFORE

-- a whole run has status 0, and any other that of its fault
abbrev pub IsLiveStatus : ℕ → Type 0
IsLiveStatus status = IsStatusBy status_of_live status

-- Where not all that was typed was drawn, or not all that was taken was printed, and nothing else befell the run, memory ran out.
abbrev pub fault_if_cut : Bool → Option MemberFault → Option MemberFault
fault_if_cut false None = Some (Script Memory)
fault_if_cut _ fault = fault

-- What ended the run comes before all else. A whole one of a member that was in the session before isn't as it should be.
abbrev pub fault_of_end : Option MemberFault → Bool → Option LiveFault
fault_of_end (Some f) _ = Some (Member f)
fault_of_end None true = Some WasBefore
fault_of_end None false = None

-- the run was whole, as it should be or not
abbrev pub IsWholeEnd : Option LiveFault → Type 0
IsWholeEnd end = (end ≡ None) ⊎ (end ≡ Some WasBefore)

-- so the statuses say
abbrev pub IsWholeStatus : ℕ → Type 0
IsWholeStatus status = (status ≡ 0) ⊎ (status ≡ WAS_BEFORE)
