-- The moments at which timers run out, and room to set several in one call.
use Rattle.std.specs.Prelude.{◌≡◌, ℕ, ◌≤◌, true, List, length, option_map}
use Rattle.std.specs.List.{AllByRecursion}
use Rattle.srm_names.specs.FullName.{FullName}
use Rattle.srm_names.specs.Histories.{or_else}
use Rattle.srm_names.specs.Names.{among}
use Rattle.srm_timers.specs.declared.arm.Arm.{Arm}
use Rattle.srm_deadlines.specs.declared.timed.Timed.{Timed}
use Rattle.srm_deadlines.specs.declared.by_name.NamedValue.{NamedValue}
use Rattle.srm_timers.specs.declared.limits.TheConstants.{LONGEST_WAIT}
use Rattle.srm_timers.specs.Arms.{arm_of, runs_out_at}
use Rattle.srm_timers.specs.Timers.{armed_at}
use Rattle.srm_deadlines.specs.Places.{value_at, has_place}

-- what an Expiries keeps
pub record ExpiryContent : Type 0 where
  pub places : List (NamedValue ℕ)
  -- so many can be set in one call without memory
  pub room : ℕ

abbrev pub expiry_of : ℕ → Arm → ℕ
expiry_of now a = runs_out_at (armed_at now a)

-- when a timer ends that is set at a moment
abbrev pub timed_at : ℕ → Arm → Timed
timed_at now a = record { name = a.name; moment = expiry_of now a }

-- these timers run from now on
pub record SetsExpiries (now : ℕ) (arms : List Arm) (old new : List (NamedValue ℕ)) : Type 0 where
  pub each : (n : FullName) → value_at new n ≡ or_else (option_map (expiry_of now) (arm_of n arms)) (value_at old n)

abbrev pub is_short : Arm → Type 0
is_short a = a.wait ≤ LONGEST_WAIT

-- no wait is longer than any can be
pub record AreShort (arms : List Arm) : Type 0 where
  pub each : AllByRecursion is_short arms

-- the expiries of the names can be set in one call without memory
pub record HaveRoom (names : List FullName) (expiries : ExpiryContent) : Type 0 where
  pub places : (n : FullName) → among names n ≡ true → has_place expiries.places n ≡ true
  pub room : length names ≤ expiries.room

-- whatever has a place, or room, still has it
pub record KeepsRoom (old new : ExpiryContent) : Type 0 where
  pub places : (n : FullName) → has_place old.places n ≡ true → has_place new.places n ≡ true
  pub room : old.room ≤ new.room
