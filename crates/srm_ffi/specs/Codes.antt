-- The numbers that calls return to C.
use Rattle.std.specs.Prelude.{ℕ, Option, Some, None, option_map, Result, Ok, Err}
use Rattle.srm_codec.specs.declared.fault.DecodeFault.{DecodeFault}
use Rattle.srm_codec.specs.declared.fault.DecodeFault.TheVariants as decode
use Rattle.srm_entries.specs.declared.fault.AgentFault.{AgentFault}
use Rattle.srm_entries.specs.declared.fault.AgentFault.TheVariants as faults
use Rattle.srm_entries.specs.declared.cause.Cause.TheVariants.{Decode}
use Rattle.srm_entries.specs.declared.cause.Outcome.{Outcome}
use Rattle.srm_entries.specs.declared.cause.Outcome.TheVariants.{Taken, Ignored}
use Rattle.srm_entries.specs.declared.state.AgentState.{AgentState}
use Rattle.srm_entries.specs.declared.state.AgentState.TheVariants as states
use Rattle.srm_entries.specs.Causes.{cause_number}
use Rattle.srm_room.specs.declared.fault.Fault.{Fault}
use Rattle.srm_room.specs.declared.fault.Fault.TheVariants as kinds
use Rattle.srm_room.specs.Readings.{fault_of}
use Rattle.srm_join.specs.declared.refusal.Refusal.{Refusal}
use Rattle.srm_join.specs.declared.refusal.Refusal.TheVariants.{NoText, NoRoom}
use Rattle.srm_join.specs.declared.sealing.SealFault.{SealFault}
use Rattle.srm_join.specs.declared.sealing.SealFault.TheVariants as seals
use Rattle.srm_ffi.specs.declared.codes.TheConstants.{DONE, KEY, MEMBER}

abbrev pub fault_number : AgentFault → ℕ
fault_number faults.Leaving = 1
fault_number faults.Gone = 2
fault_number faults.PageLimit = 3
fault_number faults.StreamFull = 4
fault_number faults.BodyLong = 5
fault_number faults.Memory = 6

abbrev pub code_of : {A : Type 0} → Result A AgentFault → ℕ
code_of (Ok value) = DONE
code_of (Err fault) = fault_number fault

abbrev pub state_number : AgentState → ℕ
state_number states.Active = 1
state_number states.Leaving = 2
state_number states.Gone = 3

abbrev pub decode_number : DecodeFault → ℕ
decode_number decode.Short = 1
decode_number decode.Magic = 2
decode_number decode.Version = 3
decode_number decode.Kind = 4
decode_number decode.Session = 5
decode_number decode.Member = 6
decode_number decode.Number = 7
decode_number decode.Length = 8
decode_number decode.Order = 9
decode_number decode.Flags = 10
decode_number decode.Source = 11
decode_number decode.Memory = 12

-- why a datagram was ignored; 0 where it was taken
abbrev pub cause_of : Outcome → ℕ
cause_of Taken = 0
cause_of (Ignored cause) = cause_number cause

-- what is wrong with the bytes; 0 where they spell a datagram of the session
abbrev pub decode_fault_of : Outcome → ℕ
decode_fault_of (Ignored (Decode fault)) = decode_number fault
decode_fault_of _ = 0

-- a moment, or the greatest number where there is none
abbrev pub or_never : Option ℕ → ℕ
or_never (Some moment) = moment
or_never None = 18446744073709551615

-- why there is no seal
abbrev pub seal_fault_number : SealFault → ℕ
seal_fault_number seals.NoKey = KEY
seal_fault_number seals.NoMember = MEMBER
seal_fault_number seals.Memory = 6

-- what is wrong with a text that says no room
abbrev pub kind_number : Fault → ℕ
kind_number kinds.NotToml = 2
kind_number (kinds.Lacks place field) = 3
kind_number (kinds.Wrong place field) = 4
kind_number kinds.KeyLength = 5
kind_number kinds.NoMember = 6
kind_number kinds.TooMany = 7
kind_number (kinds.Name member) = 8
kind_number (kinds.Address member) = 9
kind_number (kinds.NameTwice member) = 10
kind_number (kinds.AddressTwice member) = 11
kind_number (kinds.Unknown place) = 12

-- that it is too long or no text has a number too; that memory ran out has none
abbrev pub refusal_kind : Refusal → Option ℕ
refusal_kind NoText = Some 1
refusal_kind (NoRoom error) = option_map kind_number (fault_of error)
