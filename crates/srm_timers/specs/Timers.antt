-- Timers by name.
use Rattle.std.specs.Prelude.{◌≡◌, ℕ, List, option_map}
use Rattle.srm_names.specs.FullName.{FullName}
use Rattle.srm_names.specs.Histories.{or_else}
use Rattle.srm_timers.specs.declared.arm.Arm.{Arm}
use Rattle.srm_timers.specs.declared.arm.Armed.{Armed}
use Rattle.srm_deadlines.specs.declared.by_name.NamedValue.{NamedValue}
use Rattle.srm_timers.specs.Arms.{arm_of}
use Rattle.srm_deadlines.specs.Places.{value_at}

-- a timer (`Arm`) that is set at a moment
abbrev pub armed_at : ℕ → Arm → Armed
armed_at now a = record { set = now; arm = a }

-- these timers run from now on
pub record SetsTimers (now : ℕ) (arms : List Arm) (old new : List (NamedValue Armed)) : Type 0 where
  pub each : (n : FullName) → value_at new n ≡ or_else (option_map (armed_at now) (arm_of n arms)) (value_at old n)
