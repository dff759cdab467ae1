-- One more timer that is set, in a list that is gone through.
use Rattle.std.proofs.Common.{◌≡◌, ℕ, zero, suc, ◌+◌, ◌<◌, ◌≤◌, List, [], ◌∷◌, ◌++◌, length, get_or, take, Option, Some, None, Bool, true, false, ◌||◌, refl, sym, ap, ◌∙◌, arith}
use Rattle.std.specs.Prelude.{if◌then◌else◌}
use Rattle.std.proofs.lemmas.Bool.{or_right}
use Rattle.std.proofs.lemmas.List.{take_more, take_all, map-id}
use Rattle.srm_names.specs.FullName.{FullName}
use Rattle.srm_names.specs.Histories.{or_else, last_of}
use Rattle.srm_names.specs.Names.{same_name, name_below, ascending, among}
use Rattle.srm_names.proofs.Same.{same_name-itself}
use Rattle.srm_names.proofs.Snoc.{last_of-snoc}
use Rattle.srm_timers.specs.declared.arm.Arm.{Arm}
use Rattle.srm_timers.specs.declared.arm.Armed.{Armed}
use Rattle.srm_deadlines.specs.declared.by_name.NamedValue.{NamedValue}
use Rattle.srm_timers.specs.Arms.{arm_names}
use Rattle.srm_deadlines.specs.Places.{value_at, has_place, Sets, KeepsPlaces, HasPlaces}
use Rattle.srm_timers.specs.Timers.{armed_at, SetsTimers}
use Rattle.srm_timers.proofs.Arming.{last_arms}

abbrev pub armed_by : ℕ → FullName → Arm → Option Armed
armed_by now n a = if same_name n a.name then Some (armed_at now a) else None

-- the last arms of a list run
pub record SetsFront (now : ℕ) (arms : List Arm) (old new : List (NamedValue Armed)) : Type 0 where
  pub each : (n : FullName) → value_at new n ≡ or_else (last_of (armed_by now n) arms) (value_at old n)

pub front_more : (now : ℕ) (arms : List Arm) (i : ℕ) (a : Arm) (armed : Armed) (old mid new : List (NamedValue Armed)) → i < length arms → a ≡ get_or arms i a → armed ≡ armed_at now a
    → SetsFront now (take i arms) old mid → Sets a.name (Some armed) mid new → SetsFront now (take (i + 1) arms) old new
front_more now arms i a armed old mid new lt is at h k = record {
  each = λ n. k.each n ∙ ap (λ t. if same_name n a.name then Some t else value_at mid n) at ∙ go n (same_name n a.name) ∙ sym (ap (λ o. or_else o (value_at old n)) (told n));
}
  where
    told : (n : FullName) → last_of (armed_by now n) (take (i + 1) arms) ≡ or_else (armed_by now n a) (last_of (armed_by now n) (take i arms))
    told n = ap (last_of (armed_by now n)) (take_more arms i a lt ∙ ap (λ b. take i arms ++ b ∷ []) (sym is)) ∙ last_of-snoc (armed_by now n) (take i arms) a

    go : (n : FullName) (b : Bool) → (if b then Some (armed_at now a) else value_at mid n) ≡ or_else (or_else (if b then Some (armed_at now a) else None) (last_of (armed_by now n) (take i arms))) (value_at old n)
    go n true = refl
    go n false = h.each n

pub front_all : (now : ℕ) (arms : List Arm) (i : ℕ) (old new : List (NamedValue Armed)) → length arms ≤ i → ascending name_below (arm_names arms) ≡ true
    → SetsFront now (take i arms) old new → SetsTimers now arms old new
front_all now arms i old new le rising h = record {
  each = λ n. h.each n ∙ ap (λ o. or_else o (value_at old n))
      (ap (last_of (armed_by now n)) (take_all i arms le ∙ sym (map-id arms)) ∙ last_arms (armed_by now) (λ a. a) (armed_at now) (λ m a. refl) n arms rising);
}

arm_among : (arms : List Arm) (i : ℕ) (a : Arm) → i < length arms → among (arm_names arms) (get_or arms i a).name ≡ true
arm_among [] i a lt = absurd (omega arith)
arm_among (b ∷ arms) zero a lt = ap (λ k. k || among (arm_names arms) b.name) (same_name-itself b.name)
arm_among (b ∷ arms) (suc i) a lt = or_right (same_name (get_or arms i a).name b.name) (among (arm_names arms) (get_or arms i a).name) (arm_among arms i a (omega arith))

-- each arm of the list has a place
pub arm_place : {V : Type 0} (arms : List Arm) (i : ℕ) (a : Arm) (old new : List (NamedValue V)) → i < length arms → a ≡ get_or arms i a → HasPlaces (arm_names arms) old → KeepsPlaces old new → has_place new a.name ≡ true
arm_place arms i a old new lt is h k = k.each a.name (h.each a.name (ap (λ (b : Arm). among (arm_names arms) b.name) is ∙ arm_among arms i a lt))
