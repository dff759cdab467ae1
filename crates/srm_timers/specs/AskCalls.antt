-- The request timers, by the calls so far.
use Rattle.std.specs.Prelude.{◌≡◌, ℕ, ◌≤◌, true, List, [], ◌++◌, map, length, if◌then◌else◌, Option, Some, None, option_map, IsSome}
use Rattle.srm_names.specs.FullName.{FullName}
use Rattle.srm_names.specs.Histories.{last_of}
use Rattle.srm_names.specs.Names.{same_name, among, AreExactly}
use Rattle.srm_timers.specs.declared.arm.Arm.{Arm}
use Rattle.srm_timers.specs.declared.arm.Armed.{Armed}
use Rattle.srm_timers.specs.declared.arm.ArmKind.TheVariants.{Ask}
use Rattle.srm_deadlines.specs.declared.by_name.NamedValue.{NamedValue}
use Rattle.srm_timers.specs.declared.limits.TheConstants.{GREATEST_TIMER_SETTING}
use Rattle.srm_timers.specs.Arms.{WaitBasis, Plan, ArmsAre, RunsOutFirst, runs_out_at, ran_out, next_exponent, backs_off}
use Rattle.srm_timers.specs.Timers.{armed_at}
use Rattle.srm_timers.specs.Distances.{distance_to}
use Rattle.srm_timers.specs.Expiries.{ExpiryContent, HaveRoom, KeepsRoom}
use Rattle.srm_deadlines.specs.Places.{value_at, has_place}

-- what an `Asks` keeps
pub record AskContent : Type 0 where
  pub c1 : ℕ
  pub c2 : ℕ
  pub expiries : ExpiryContent
  pub timers : List (NamedValue Armed)
  -- so many arms can be answered without memory, of names that are found missing
  pub detect_room : ℕ
  -- and of names that are due
  pub due_room : ℕ
  -- so many names that are due can be looked up without memory
  pub names_room : ℕ

-- a timer that was set, with its arm, or a name that was gained
pub data AskCall : Type 0 where
  Set : (now : ℕ) (arm : Arm) → AskCall
  Gained : (name : FullName) → AskCall

-- what the call says of the name's timer: that it runs, that it is gone, or nothing
abbrev pub timer_after : FullName → AskCall → Option (Option Armed)
timer_after n (Set now arm) = if same_name n arm.name then Some (Some (armed_at now arm)) else None
timer_after n (Gained name) = if same_name n name then Some None else None

abbrev pub flat : {X : Type 0} → Option (Option X) → Option X
flat None = None
flat (Some o) = o

-- the timer of a name
abbrev pub ask_timer : List AskCall → FullName → Option Armed
ask_timer calls n = flat (last_of (timer_after n) calls)

-- these arms were made at a moment, one after another
abbrev pub sets : ℕ → List Arm → List AskCall
sets now arms = map (Set now) arms

abbrev pub ask_basis : ℕ → ℕ → WaitBasis
ask_basis exponent distance = record { kind = Ask; exponent = exponent; distance = distance }

abbrev pub ask_plan : FullName → ℕ → ℕ → Plan
ask_plan name distance exponent = record { name = name; wait_basis = ask_basis exponent distance }

-- the exponent of a name that is found missing: one more where a request for it was heard
abbrev pub first_exponent : List FullName → FullName → ℕ
first_exponent asked n = if among asked n then 1 else 0

-- how a name is armed that is among those found missing
abbrev pub found_basis : (names asked : List FullName) → List ℕ → FullName → Option WaitBasis
found_basis names asked dist n = if among names n then Some (ask_basis (first_exponent asked n) (distance_to dist n.stream.source)) else None

abbrev pub found_plan : (asked : List FullName) → List ℕ → FullName → Plan
found_plan asked dist n = ask_plan n (distance_to dist n.stream.source) (first_exponent asked n)

abbrev pub again_basis : ℕ → Armed → WaitBasis
again_basis distance timer = ask_basis (next_exponent timer) distance

abbrev pub again_exponent : Option Armed → ℕ
again_exponent None = 0
again_exponent (Some a) = next_exponent a

-- how a name that has a timer is armed again
abbrev pub again_plan : List ℕ → (FullName → Option Armed) → FullName → Plan
again_plan dist timer n = ask_plan n (distance_to dist n.stream.source) (again_exponent (timer n))

-- how a name is armed again whose timer ran out
abbrev pub due_basis : ℕ → List ℕ → (FullName → Option Armed) → FullName → Option WaitBasis
due_basis now dist timer n = if ran_out now (timer n) then option_map (again_basis (distance_to dist n.stream.source)) (timer n) else None

pub record AskFits (c1 c2 : ℕ) (calls : List AskCall) (a : AskContent) : Type 0 where
  pub c1_is : a.c1 ≡ c1
  pub c2_is : a.c2 ≡ c2
  pub timers : (n : FullName) → value_at a.timers n ≡ ask_timer calls n

-- what fits goes on to fit, with these calls added
pub record AskAdds (more : List AskCall) (old new : AskContent) : Type 0 where
  pub each : (c1 c2 : ℕ) (calls : List AskCall) → AskFits c1 c2 calls old → AskFits c1 c2 (calls ++ more) new

-- the names are those whose timers ran out, in order of name
pub record AskDue (now : ℕ) (a : AskContent) (names : List FullName) : Type 0 where
  pub each : (c1 c2 : ℕ) (calls : List AskCall) → AskFits c1 c2 calls a → AreExactly (λ n. ran_out now (ask_timer calls n)) names

-- the arms are those of the names that were found missing, in order of name
pub record ArmsOfFound (names asked : List FullName) (dist : List ℕ) (arms : List Arm) : Type 0 where
  pub are : ArmsAre (found_basis names asked dist) arms

-- the arms are those of the timers that ran out, set again, in order of name
pub record ArmsSetAgain (now : ℕ) (dist : List ℕ) (a : AskContent) (arms : List Arm) : Type 0 where
  pub each : (c1 c2 : ℕ) (calls : List AskCall) → AskFits c1 c2 calls a → ArmsAre (due_basis now dist (ask_timer calls)) arms

-- the exponent of the timer that a request for the name, heard now, sets again, and none where it is ignored or no timer runs
pub record AskExponentWhenHeard (name : FullName) (now : ℕ) (a : AskContent) (exponent : Option ℕ) : Type 0 where
  pub each : (c1 c2 : ℕ) (calls : List AskCall) → AskFits c1 c2 calls a → exponent ≡ backs_off now (ask_timer calls name)

-- the exponent of the timer that is set again where the name's timer ran out, and none where no timer runs
pub record AskExponentWhenDue (name : FullName) (a : AskContent) (exponent : Option ℕ) : Type 0 where
  pub each : (c1 c2 : ℕ) (calls : List AskCall) → AskFits c1 c2 calls a → exponent ≡ option_map next_exponent (ask_timer calls name)

-- when the first timer runs out
pub record AskNext (a : AskContent) (moment : Option ℕ) : Type 0 where
  pub each : (c1 c2 : ℕ) (calls : List AskCall) → AskFits c1 c2 calls a → RunsOutFirst (ask_timer calls) moment

-- what fits goes on to fit the same
pub record AskStays (old new : AskContent) : Type 0 where
  pub each : (c1 c2 : ℕ) (calls : List AskCall) → AskFits c1 c2 calls old → AskFits c1 c2 calls new

-- the timers of these names can be set in one call without memory
pub record AskReady (names : List FullName) (a : AskContent) : Type 0 where
  pub expiries : HaveRoom names a.expiries
  pub timers : (n : FullName) → among names n ≡ true → has_place a.timers n ≡ true

-- one `detect` of these names needs no memory
pub record DetectReady (names : List FullName) (a : AskContent) : Type 0 where
  pub set : AskReady names a
  pub room : length names ≤ a.detect_room

-- one `due` at which no other names are due needs no memory
pub record DueReady (names : List FullName) (a : AskContent) : Type 0 where
  pub set : AskReady names a
  pub room : length names ≤ a.due_room
  pub look_up : length names ≤ a.names_room

-- neither of the two needs memory
pub record DetectAndDueReady (names : List FullName) (a : AskContent) : Type 0 where
  pub detect : DetectReady names a
  pub due : DueReady names a

-- whatever needed no memory needs none, and the settings are the same
pub record AskKeepsRoom (old new : AskContent) : Type 0 where
  pub c1 : new.c1 ≡ old.c1
  pub c2 : new.c2 ≡ old.c2
  pub expiries : KeepsRoom old.expiries new.expiries
  pub timers : (n : FullName) → has_place old.timers n ≡ true → has_place new.timers n ≡ true
  pub detect_room : old.detect_room ≤ new.detect_room
  pub due_room : old.due_room ≤ new.due_room
  pub names_room : old.names_room ≤ new.names_room

-- where one `detect` needed no memory, it needs none
pub record DetectStaysReady (old new : AskContent) : Type 0 where
  pub each : (names : List FullName) → DetectReady names old → DetectReady names new

-- where one `due` needed no memory, it needs none
pub record DueStaysReady (old new : AskContent) : Type 0 where
  pub each : (names : List FullName) → DueReady names old → DueReady names new

-- each of these names has a timer
pub record AskTimersRun (names : List FullName) (a : AskContent) : Type 0 where
  pub each : (n : FullName) → among names n ≡ true → IsSome (value_at a.timers n)

-- what holds of each Asks: settings in range, an end for each timer, and an empty list for the next answer of each kind
pub record AskIsRight (a : AskContent) (detect_list due_list : List Arm) : Type 0 where
  pub c1 : a.c1 ≤ GREATEST_TIMER_SETTING
  pub c2 : a.c2 ≤ GREATEST_TIMER_SETTING
  pub expiries : (n : FullName) → value_at a.expiries.places n ≡ option_map runs_out_at (value_at a.timers n)
  pub detect_empty : detect_list ≡ []
  pub due_empty : due_list ≡ []
