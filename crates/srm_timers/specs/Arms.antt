-- Timers that are set (`Arm`): when they run out, their ignore moments, how they come about, and how their waits are chosen.
use Rattle.std.specs.Prelude.{◌≡◌, ℕ, ◌==◌, ◌+◌, ◌-◌, ◌*◌, ◌/◌, ◌%◌, ◌^◌, ◌<◌, ◌≤◌, min, nat_le, Bool, true, false, ◌||◌, List, [], ◌∷◌, map, find, if◌then◌else◌, Option, Some, None, option_map, IsNone, IfSome}
use Rattle.std.specs.List.{AllByRecursion}
use Rattle.srm_names.specs.declared.limits.TheConstants.{MEMBERS}
use Rattle.srm_names.specs.FullName.{FullName}
use Rattle.srm_names.specs.Names.{same_name, name_below, ascending}
use Rattle.srm_timers.specs.declared.limits.TheConstants.{GREATEST_EXPONENT}
use Rattle.srm_timers.specs.declared.arm.Arm.{Arm}
use Rattle.srm_timers.specs.declared.arm.Armed.{Armed}
use Rattle.srm_timers.specs.declared.arm.ArmKind.{ArmKind}
use Rattle.srm_timers.specs.declared.arm.ArmKind.TheVariants.{Ask, Fix}

abbrev pub same_kind : ArmKind → ArmKind → Bool
same_kind Ask Ask = true
same_kind Fix Fix = true
same_kind _ _ = false

-- when the timer runs out
abbrev pub runs_out_at : Armed → ℕ
runs_out_at a = a.set + a.arm.wait

-- a request that is heard before this moment changes nothing
abbrev pub ignored_until : Armed → ℕ
ignored_until a = a.set + a.arm.wait / 2

abbrev pub ran_out : ℕ → Option Armed → Bool
ran_out now None = false
ran_out now (Some a) = nat_le (runs_out_at a) now

-- the exponent of the timer after this one
abbrev pub next_exponent : Armed → ℕ
next_exponent a = min GREATEST_EXPONENT (a.arm.exponent + 1)

-- the exponent of the timer that a heard request sets again, if it isn't ignored
abbrev pub backs_off : ℕ → Option Armed → Option ℕ
backs_off now None = None
backs_off now (Some a) = if (a.arm.exponent == 0) || nat_le (ignored_until a) now then Some (next_exponent a) else None

-- an `Arm` but for its name and its wait
pub record WaitBasis : Type 0 where
  pub kind : ArmKind
  pub exponent : ℕ
  pub distance : ℕ

abbrev pub wait_basis : Arm → WaitBasis
wait_basis a = record { kind = a.kind; exponent = a.exponent; distance = a.distance }

-- an `Arm` but for its wait
pub record Plan : Type 0 where
  pub name : FullName
  pub wait_basis : WaitBasis

abbrev pub plan_of : Arm → Plan
plan_of a = record { name = a.name; wait_basis = wait_basis a }

abbrev pub arm_name : Arm → FullName
arm_name a = a.name

abbrev pub arm_names : List Arm → List FullName
arm_names arms = map arm_name arms

abbrev pub arm_of : FullName → List Arm → Option Arm
arm_of n arms = find (λ a. same_name n a.name) arms

-- request timers, and repair timers
pub record IsAsk (a : Arm) : Type 0 where
  pub kind : a.kind ≡ Ask
  pub exponent : a.exponent ≤ GREATEST_EXPONENT

pub record IsFix (a : Arm) : Type 0 where
  pub kind : a.kind ≡ Fix
  pub exponent : a.exponent ≡ 0

pub record AreAsks (arms : List Arm) : Type 0 where
  pub each : AllByRecursion IsAsk arms

pub record AreFixes (arms : List Arm) : Type 0 where
  pub each : AllByRecursion IsFix arms

-- the arms have exactly these bases, by name, and stand in order of name
pub record ArmsAre (bases : FullName → Option WaitBasis) (arms : List Arm) : Type 0 where
  pub in_order : ascending name_below (arm_names arms) ≡ true
  pub exact : (n : FullName) → option_map wait_basis (arm_of n arms) ≡ bases n

-- each is of a name of a member
pub record AreOfMembers (arms : List Arm) : Type 0 where
  pub each : AllByRecursion (λ a. a.name.stream.source < MEMBERS) arms

-- the bounds of the range that a timer's wait is chosen from, by the two settings of its kind
abbrev pub low_of : ℕ → Arm → ℕ
low_of first a = 2 ^ a.exponent * first * a.distance

abbrev pub high_of : ℕ → ℕ → Arm → ℕ
high_of first second a = 2 ^ a.exponent * (first + second) * a.distance

-- The waits of the arms are chosen by the next random numbers, one an arm, in order, each between its bounds; `to` is the generator after them.
abbrev pub AreChosen : {W : Type 0} → (W → ℕ × W) → (low high : Arm → ℕ) → W → List Arm → W → Type 0
AreChosen next_word low high from [] to = to ≡ from
AreChosen next_word low high from (a ∷ arms) to = (a.wait ≡ low a + (next_word from).0 % (high a - low a + 1)) × AreChosen next_word low high (next_word from).1 arms to

-- the first of the timers runs out at this moment, and none runs where there is none
pub record RunsOutFirst (timer : FullName → Option Armed) (moment : Option ℕ) : Type 0 where
  pub none : IsNone moment → (n : FullName) → timer n ≡ None
  pub least : IfSome moment (λ t. (n : FullName) → IfSome (timer n) (λ a. t ≤ runs_out_at a))
  pub is_one : IfSome moment (λ t. (n : FullName) × (option_map runs_out_at (timer n) ≡ Some t))
