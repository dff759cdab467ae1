-- The repair timers, by the calls so far.
use Rattle.std.specs.Prelude.{◌≡◌, ℕ, ◌+◌, ◌*◌, ◌<◌, ◌≤◌, Bool, true, false, not, ◌&&◌, ◌||◌, nat_lt, List, ◌++◌, map, if◌then◌else◌, Option, Some, None, option_map, unwrap_or, is_some, length}
use Rattle.std.specs.List.{list_any}
use Rattle.srm_names.specs.declared.limits.TheConstants.{MEMBERS}
use Rattle.srm_names.specs.FullName.{FullName}
use Rattle.srm_names.specs.Histories.{last_of, first_of}
use Rattle.srm_names.specs.Names.{same_name, among, AreExactly}
use Rattle.srm_timers.specs.declared.arm.Arm.{Arm}
use Rattle.srm_timers.specs.declared.arm.Armed.{Armed}
use Rattle.srm_timers.specs.declared.arm.ArmKind.TheVariants.{Fix}
use Rattle.srm_deadlines.specs.declared.by_name.NamedValue.{NamedValue}
use Rattle.srm_timers.specs.declared.limits.TheConstants.{HOLD_OFF, GREATEST_TIMER_SETTING}
use Rattle.srm_timers.specs.Arms.{WaitBasis, Plan, RunsOutFirst, plan_of, runs_out_at, ran_out}
use Rattle.srm_timers.specs.AskCalls.{flat}
use Rattle.srm_timers.specs.Timers.{armed_at}
use Rattle.srm_timers.specs.Distances.{distance_to}
use Rattle.srm_timers.specs.Expiries.{ExpiryContent, HaveRoom, KeepsRoom}
use Rattle.srm_deadlines.specs.Places.{value_at, has_place}

-- what a `Fixes` keeps
pub record FixContent : Type 0 where
  pub d1 : ℕ
  pub d2 : ℕ
  pub expiries : ExpiryContent
  pub askers : List (NamedValue ℕ)
  pub held_off : List (NamedValue ℕ)
  -- so many names that are due can be repaired without memory
  pub due_room : ℕ

-- a request that was heard, a timer that was set, with its arm, or a repair that holds the name off until a moment
pub data FixCall : Type 0 where
  Asked : (name : FullName) (from : ℕ) → FixCall
  SetFix : (now : ℕ) (arm : Arm) → FixCall
  Repaired : (name : FullName) (until : ℕ) → FixCall

abbrev pub asker_by : FullName → FixCall → Option ℕ
asker_by n (Asked name from) = if same_name n name then Some from else None
asker_by n (SetFix now arm) = None
asker_by n (Repaired name until) = None

-- who asked for the name first
abbrev pub asked_first : List FixCall → FullName → Option ℕ
asked_first calls n = first_of (asker_by n) calls

-- who asked for the name first, else its source
abbrev pub first_asker : List FixCall → FullName → ℕ
first_asker calls n = unwrap_or (asked_first calls n) n.stream.source

abbrev pub fix_timer_after : FullName → FixCall → Option (Option Armed)
fix_timer_after n (Asked name from) = None
fix_timer_after n (SetFix now arm) = if same_name n arm.name then Some (Some (armed_at now arm)) else None
fix_timer_after n (Repaired name until) = if same_name n name then Some None else None

-- the repair timer that runs
abbrev pub fix_timer : List FixCall → FullName → Option Armed
fix_timer calls n = flat (last_of (fix_timer_after n) calls)

abbrev pub call_holds_off : FullName → ℕ → FixCall → Bool
call_holds_off n now (Asked name from) = false
call_holds_off n now (SetFix m arm) = false
call_holds_off n now (Repaired name until) = same_name n name && nat_lt now until

-- whether the name is held off
abbrev pub calls_hold_off : List FixCall → FullName → ℕ → Bool
calls_hold_off calls n now = list_any (call_holds_off n now) calls

-- whether a request for the name sets its timer, where it is held: none runs, and the name isn't held off
abbrev pub is_free : List FixCall → FullName → ℕ → Bool
is_free calls n now = not (is_some (fix_timer calls n)) && not (calls_hold_off calls n now)

-- these timers were set at a moment, one after another
abbrev pub sets_fix : ℕ → List Arm → List FixCall
sets_fix now arms = map (SetFix now) arms

-- until when a repair at a moment holds a name off, over the distance to the one who asked for it first
abbrev pub held_until : ℕ → ℕ → ℕ
held_until now distance = now + HOLD_OFF * distance

abbrev pub repair_holds_until : ℕ → List ℕ → List FixCall → FullName → ℕ
repair_holds_until now dist calls n = held_until now (distance_to dist (first_asker calls n))

abbrev pub repair_by : ℕ → List ℕ → List FixCall → FullName → FixCall
repair_by now dist calls n = Repaired n (repair_holds_until now dist calls n)

-- these names were repaired at a moment, one after another
abbrev pub repair_calls : ℕ → List ℕ → List FixCall → List FullName → List FixCall
repair_calls now dist calls names = map (repair_by now dist calls) names

abbrev pub fix_basis : ℕ → WaitBasis
fix_basis distance = record { kind = Fix; exponent = 0; distance = distance }

abbrev pub fix_plan : FullName → ℕ → Plan
fix_plan name distance = record { name = name; wait_basis = fix_basis distance }

-- who asked for the name first, and whether it is held off, by the tables that are kept
abbrev pub asker_at : List (NamedValue ℕ) → FullName → ℕ
asker_at askers n = unwrap_or (value_at askers n) n.stream.source

abbrev pub is_held_off : List (NamedValue ℕ) → FullName → ℕ → Bool
is_held_off held_off n now = nat_lt now (unwrap_or (value_at held_off n) 0)

abbrev pub held_off_until : ℕ → List ℕ → List (NamedValue ℕ) → FullName → ℕ
held_off_until now dist askers n = held_until now (distance_to dist (asker_at askers n))

pub record FixFits (d1 d2 : ℕ) (calls : List FixCall) (a : FixContent) : Type 0 where
  pub d1_is : a.d1 ≡ d1
  pub d2_is : a.d2 ≡ d2
  pub askers : (n : FullName) → value_at a.askers n ≡ asked_first calls n
  pub expiries : (n : FullName) → value_at a.expiries.places n ≡ option_map runs_out_at (fix_timer calls n)
  pub held_off : (n : FullName) (now : ℕ) → is_held_off a.held_off n now ≡ calls_hold_off calls n now

-- one name is held off until a moment, or for as long as it was
pub record HoldsOff (name : FullName) (until : ℕ) (old new : List (NamedValue ℕ)) : Type 0 where
  pub each : (n : FullName) (now : ℕ) → is_held_off new n now ≡ is_held_off old n now || same_name n name && nat_lt now until

-- these names are held off for three distances to those who asked for them first, or for as long as they were
pub record HoldAllOff (now : ℕ) (dist : List ℕ) (names : List FullName) (askers old new : List (NamedValue ℕ)) : Type 0 where
  pub each : (n : FullName) (t : ℕ) → is_held_off new n t ≡ is_held_off old n t || among names n && nat_lt t (held_off_until now dist askers n)
  pub near : (n : FullName) → among names n ≡ true → asker_at askers n < MEMBERS

-- what fits goes on to fit, with these calls added
pub record FixAdds (more : List FixCall) (old new : FixContent) : Type 0 where
  pub each : (d1 d2 : ℕ) (calls : List FixCall) → FixFits d1 d2 calls old → FixFits d1 d2 (calls ++ more) new

-- with the repairs of these names added, made at a moment; who asked for them first is a member
pub record FixRepairs (now : ℕ) (dist : List ℕ) (names : List FullName) (old new : FixContent) : Type 0 where
  pub each : (d1 d2 : ℕ) (calls : List FixCall) → FixFits d1 d2 calls old → FixFits d1 d2 (calls ++ repair_calls now dist calls names) new
  pub near : (d1 d2 : ℕ) (calls : List FixCall) → FixFits d1 d2 calls old → (n : FullName) → among names n ≡ true → first_asker calls n < MEMBERS

-- the names are those whose timers ran out, in order of name
pub record FixDue (now : ℕ) (a : FixContent) (names : List FullName) : Type 0 where
  pub each : (d1 d2 : ℕ) (calls : List FixCall) → FixFits d1 d2 calls a → AreExactly (λ n. ran_out now (fix_timer calls n)) names

-- whether a request for the name sets its timer, where it is held
pub record FixIsFree (name : FullName) (now : ℕ) (a : FixContent) (free : Bool) : Type 0 where
  pub each : (d1 d2 : ℕ) (calls : List FixCall) → FixFits d1 d2 calls a → free ≡ is_free calls name now

pub record FixFirstAsker (name : FullName) (a : FixContent) (member : ℕ) : Type 0 where
  pub each : (d1 d2 : ℕ) (calls : List FixCall) → FixFits d1 d2 calls a → member ≡ first_asker calls name

-- a request for a name that is held, or isn't, sets such a timer
pub record NotesRequest (name : FullName) (distance : ℕ) (held : Bool) (now : ℕ) (a : FixContent) (arm : Option Arm) : Type 0 where
  pub each : (d1 d2 : ℕ) (calls : List FixCall) → FixFits d1 d2 calls a
      → option_map plan_of arm ≡ (if held && is_free calls name now then Some (fix_plan name distance) else None)

-- when the first timer runs out
pub record FixNext (a : FixContent) (moment : Option ℕ) : Type 0 where
  pub each : (d1 d2 : ℕ) (calls : List FixCall) → FixFits d1 d2 calls a → RunsOutFirst (fix_timer calls) moment

-- what fits goes on to fit the same
pub record FixStays (old new : FixContent) : Type 0 where
  pub each : (d1 d2 : ℕ) (calls : List FixCall) → FixFits d1 d2 calls old → FixFits d1 d2 calls new

-- a request for the name, and a repair of it, need no memory
pub record FixPlace (a : FixContent) (n : FullName) : Type 0 where
  pub expiries : has_place a.expiries.places n ≡ true
  pub askers : has_place a.askers n ≡ true
  pub held_off : has_place a.held_off n ≡ true

pub record FixPlaces (names : List FullName) (a : FixContent) : Type 0 where
  pub each : (n : FullName) → among names n ≡ true → FixPlace a n

-- nor does setting the timers of all these names in one call, nor repairing them as those that are due
pub record FixReady (names : List FullName) (a : FixContent) : Type 0 where
  pub places : FixPlaces names a
  pub expiries : HaveRoom names a.expiries
  pub room : length names ≤ a.due_room

-- whatever needed no memory needs none, and the settings are the same
pub record FixKeepsRoom (old new : FixContent) : Type 0 where
  pub d1 : new.d1 ≡ old.d1
  pub d2 : new.d2 ≡ old.d2
  pub each : (n : FullName) → FixPlace old n → FixPlace new n
  pub expiries : KeepsRoom old.expiries new.expiries
  pub due_room : old.due_room ≤ new.due_room

-- what holds of each Fixes: settings in range
pub record FixIsRight (a : FixContent) : Type 0 where
  pub d1 : a.d1 ≤ GREATEST_TIMER_SETTING
  pub d2 : a.d2 ≤ GREATEST_TIMER_SETTING
