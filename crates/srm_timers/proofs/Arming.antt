-- Lists of arms: their names, their plans, and how they are drawn.
use Rattle.std.proofs.Common.{◌≡◌, ℕ, ◌+◌, ◌<◌, List, [], ◌∷◌, ◌++◌, map, length, get_or, take, Option, Some, None, Bool, true, false, ◌||◌, cond, refl, sym, ap, subst, ◌∙◌}
use Rattle.std.specs.Prelude.{if◌then◌else◌, option_map, find}
use Rattle.std.proofs.lemmas.List.{map-append}
use Rattle.srm_names.specs.declared.limits.TheConstants.{MEMBERS}
use Rattle.srm_names.specs.FullName.{FullName}
use Rattle.srm_names.specs.Histories.{or_else, last_of}
use Rattle.srm_names.specs.Names.{same_name, name_below, ascending, among}
use Rattle.srm_names.proofs.Same.{same_name-is}
use Rattle.srm_names.proofs.Orders.{stands_once}
use Rattle.srm_names.proofs.Lists.{AllByRecursion-snoc}
use Rattle.srm_names.proofs.Rising.{ascending_tail}
use Rattle.srm_names.proofs.Snoc.{or_else-none}
use Rattle.srm_deadlines.proofs.Order.{map_take}
use Rattle.srm_timers.specs.declared.arm.Arm.{Arm}
use Rattle.srm_deadlines.specs.declared.timed.Timed.{Timed}
use Rattle.srm_timers.specs.Arms.{Plan, WaitBasis, plan_of, wait_basis, arm_names, arm_of, ArmsAre, AreChosen, IsAsk, AreAsks, AreOfMembers}
use Rattle.srm_timers.specs.Expiries.{timed_at, expiry_of, is_short, AreShort}
use Rattle.srm_deadlines.specs.Places.{names_of, moment_among, is_timed}

-- arms that are drawn one after the other
pub chosen-append : {W : Type 0} (next_word : W → ℕ × W) (low high : Arm → ℕ) (from mid to : W) (xs ys : List Arm)
    → AreChosen next_word low high from xs mid → AreChosen next_word low high mid ys to → AreChosen next_word low high from (xs ++ ys) to
chosen-append next_word low high from mid to [] ys h k = subst (λ w. AreChosen next_word low high w ys to) h k
chosen-append next_word low high from mid to (x ∷ xs) ys h k = (h.0, chosen-append next_word low high (next_word from).1 mid to xs ys h.1 k)

pub members_more : (name : FullName) (source : ℕ) (arms : List Arm) (a : Arm) → AreOfMembers arms → a.name ≡ name → source ≡ name.stream.source → source < MEMBERS → AreOfMembers (arms ++ a ∷ [])
members_more name source arms a h named is below =
    record { each = AllByRecursion-snoc (λ (x : Arm). x.name.stream.source < MEMBERS) arms a h.each (subst (λ (n : FullName). n.stream.source < MEMBERS) (sym named) (subst (λ k. k < MEMBERS) is below)) }

pub short_more : (arms : List Arm) (a : Arm) → AreShort arms → is_short a → AreShort (arms ++ a ∷ [])
short_more arms a h here = record { each = AllByRecursion-snoc is_short arms a h.each here }

pub asks_more : (arms : List Arm) (a : Arm) → AreAsks arms → IsAsk a → AreAsks (arms ++ a ∷ [])
asks_more arms a h here = record { each = AllByRecursion-snoc IsAsk arms a h.each here }

-- one more arm that is planned
pub plans_more : (f : FullName → Plan) (names : List FullName) (i : ℕ) (n : FullName) (arms arms' : List Arm) (a : Arm) → i < length names → n ≡ get_or names i n
    → map plan_of arms ≡ map f (take i names) → arms' ≡ arms ++ a ∷ [] → plan_of a ≡ f n → map plan_of arms' ≡ map f (take (i + 1) names)
plans_more f names i n arms arms' a lt is h items here =
    ap (map plan_of) items ∙ map-append plan_of arms (a ∷ []) ∙ ap (λ ps. ps ++ plan_of a ∷ []) h ∙ ap (λ p. map f (take i names) ++ p ∷ []) here ∙ sym (map_take f names i n lt is)

-- arms by plan have the names that are planned
pub planned_names : (f : FullName → Plan) → ((n : FullName) → (f n).name ≡ n) → (names : List FullName) (arms : List Arm) → map plan_of arms ≡ map f names → arm_names arms ≡ names
planned_names f own [] [] e = refl
planned_names f own [] (a ∷ arms) e = cc
planned_names f own (n ∷ names) [] e = cc
planned_names f own (n ∷ names) (a ∷ arms) e =
    let head : plan_of a ≡ f n = cc in
    let tail : map plan_of arms ≡ map f names = cc in
    ap (λ m. m ∷ arm_names arms) (ap (λ (p : Plan). p.name) head ∙ own n) ∙ ap (λ ms. n ∷ ms) (planned_names f own names arms tail)

-- and, by name, the settings that are planned
setting_if : (n m : FullName) (a : Arm) (f : FullName → Plan) (b rest : Bool) (found : Option Arm) → same_name n m ≡ b → wait_basis a ≡ (f m).wait_basis
    → option_map wait_basis found ≡ (if rest then Some (f n).wait_basis else None)
    → option_map wait_basis (cond b (Some a) found) ≡ (if b || rest then Some (f n).wait_basis else None)
setting_if n m a f true rest found same is more = ap Some (is ∙ ap (λ k. (f k).wait_basis) (sym (same_name-is n m same)))
setting_if n m a f false rest found same is more = more

pub planned_settings : (f : FullName → Plan) → ((n : FullName) → (f n).name ≡ n) → (names : List FullName) (arms : List Arm) → map plan_of arms ≡ map f names → (n : FullName)
    → option_map wait_basis (arm_of n arms) ≡ (if among names n then Some (f n).wait_basis else None)
planned_settings f own [] [] e n = refl
planned_settings f own [] (a ∷ arms) e n = cc
planned_settings f own (m ∷ names) [] e n = cc
planned_settings f own (m ∷ names) (a ∷ arms) e n =
    let head : plan_of a ≡ f m = cc in
    let tail : map plan_of arms ≡ map f names = cc in
    let name : a.name ≡ m = ap (λ (p : Plan). p.name) head ∙ own m in
    setting_if n m a f (same_name n a.name) (among names n) (arm_of n arms) (ap (same_name n) (sym name)) (ap (λ (p : Plan). p.wait_basis) head) (planned_settings f own names arms tail n)
    ∙ ap (λ k. if same_name n k || among names n then Some (f n).wait_basis else None) name

-- arms by plan are exactly those planned
pub planned_are : (f : FullName → Plan) (settings : FullName → Option WaitBasis) (names : List FullName) (arms : List Arm) → ((n : FullName) → (f n).name ≡ n)
    → ascending name_below names ≡ true → map plan_of arms ≡ map f names → ((n : FullName) → (if among names n then Some (f n).wait_basis else None) ≡ settings n) → ArmsAre settings arms
planned_are f settings names arms own rising e is = record {
  in_order = ap (ascending name_below) (planned_names f own names arms e) ∙ rising;
  exact = λ n. planned_settings f own names arms e n ∙ is n;
}

none_found : (n : FullName) (arms : List Arm) → among (arm_names arms) n ≡ false → arm_of n arms ≡ None
none_found n [] h = refl
none_found n (a ∷ arms) h = go (same_name n a.name) h (none_found n arms)
  where
    go : (b : Bool) → (b || among (arm_names arms) n) ≡ false → (among (arm_names arms) n ≡ false → arm_of n arms ≡ None) → cond b (Some a) (arm_of n arms) ≡ None
    go true h more = cc
    go false h more = more h

-- where names rise, the last arm of a name is the one that is found first
module _ {C V : Type 0} (tell : FullName → C → Option V) (make : Arm → C) (value : Arm → V)
    (tells : (n : FullName) (a : Arm) → tell n (make a) ≡ (if same_name n a.name then Some (value a) else None)) where
  pick : (n : FullName) (a : Arm) (arms : List Arm) (b : Bool) → same_name n a.name ≡ b → ascending name_below (arm_names (a ∷ arms)) ≡ true
      → (there : Bool) → among (arm_names arms) n ≡ there
      → or_else (option_map value (arm_of n arms)) (if b then Some (value a) else None) ≡ option_map value (cond b (Some a) (arm_of n arms))
  pick n a arms true same rising true is = absurd (stands_once a.name (arm_names arms) rising (ap (among (arm_names arms)) (sym (same_name-is n a.name same)) ∙ is))
  pick n a arms true same rising false is = ap (λ o. or_else (option_map value o) (Some (value a))) (none_found n arms is)
  pick n a arms false same rising there is = or_else-none (option_map value (arm_of n arms))

  pub last_arms : (n : FullName) (arms : List Arm) → ascending name_below (arm_names arms) ≡ true → last_of (tell n) (map make arms) ≡ option_map value (arm_of n arms)
  last_arms n [] rising = refl
  last_arms n (a ∷ arms) rising =
      ap (λ o. or_else o (tell n (make a))) (last_arms n arms (ascending_tail name_below a.name (arm_names arms) rising))
      ∙ ap (or_else (option_map value (arm_of n arms))) (tells n a)
      ∙ pick n a arms (same_name n a.name) refl rising (among (arm_names arms) n) refl

-- when arms run out, as moments
pub moments_names : (now : ℕ) (arms : List Arm) → names_of (map (timed_at now) arms) ≡ arm_names arms
moments_names now [] = refl
moments_names now (a ∷ arms) = ap (λ ns. a.name ∷ ns) (moments_names now arms)

pub moments_of : (now : ℕ) (arms : List Arm) (n : FullName) → moment_among (map (timed_at now) arms) n ≡ option_map (expiry_of now) (arm_of n arms)
moments_of now [] n = refl
moments_of now (a ∷ arms) n = go (same_name n a.name) (moments_of now arms n)
  where
    go : (b : Bool) → option_map (λ (t : Timed). t.moment) (find (is_timed n) (map (timed_at now) arms)) ≡ option_map (expiry_of now) (arm_of n arms)
        → option_map (λ (t : Timed). t.moment) (cond b (Some (timed_at now a)) (find (is_timed n) (map (timed_at now) arms))) ≡ option_map (expiry_of now) (cond b (Some a) (arm_of n arms))
    go true more = refl
    go false more = more
