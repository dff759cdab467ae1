-- Arms of an entry, by kind and name: which there are, and that their waits lie in their intervals.
use Rattle.std.proofs.Common.{◌≡◌, ℕ, ◌+◌, ◌-◌, ◌%◌, ◌^◌, ◌<◌, ◌≤◌, Bool, true, false, ◌&&◌, ◌||◌, List, [], ◌∷◌, refl, ap, sym, ◌∙◌, cond, arith}
use Rattle.std.specs.Prelude.{find, Option, Some, None, is_some, option_map, if◌then◌else◌}
use Rattle.std.specs.List.{AllByRecursion}
use Rattle.std.proofs.lemmas.Nat.{mod_below}
use Rattle.std.proofs.Math.Nat.{mul-le-mul_left, mul-le-mul_right}
use Rattle.srm_names.specs.FullName.{FullName}
use Rattle.srm_names.specs.Names.{same_name, name_below, ascending, among}
use Rattle.srm_names.proofs.Same.{same_name-is, same_name-itself}
use Rattle.srm_names.proofs.Orders.{stands_once}
use Rattle.srm_names.proofs.Rising.{ascending_tail}
use Rattle.srm_timers.specs.declared.arm.Arm.{Arm}
use Rattle.srm_timers.specs.declared.arm.ArmKind.{ArmKind}
use Rattle.srm_timers.specs.declared.arm.ArmKind.TheVariants.{Ask, Fix}
use Rattle.srm_timers.specs.Arms as timers
use Rattle.srm_timers.specs.Arms.{WaitBasis, wait_basis, same_kind, arm_names, AreChosen, arm_of}
use Rattle.srm_timers.specs.AskCalls as asks
use Rattle.srm_entries.specs.Configs.{Config}
use Rattle.srm_entries.specs.Timers.{low_of, high_of}
use Rattle.srm_entries.proofs.Arming.{kind_and_name}

-- the arm that was found, where it is of a kind
abbrev pub of_kind : ArmKind → Option Arm → Option Arm
of_kind k None = None
of_kind k (Some a) = if same_kind k a.kind then Some a else None

none_named : (k : ArmKind) (n : FullName) (arms : List Arm) → among (arm_names arms) n ≡ false → find (kind_and_name k n) arms ≡ None
none_named k n [] h = refl
none_named k n (a ∷ arms) h = go (same_kind k a.kind) (same_name n a.name) h (none_named k n arms)
  where
    go : (t b : Bool) → (b || among (arm_names arms) n) ≡ false → (among (arm_names arms) n ≡ false → find (kind_and_name k n) arms ≡ None) → cond (t && b) (Some a) (find (kind_and_name k n) arms) ≡ None
    go t true h more = absurd (cc)
    go true false h more = more h
    go false false h more = more h

-- where names rise, the arm of a kind and a name is the one of the name, if it is of this kind
pub find_kind : (k : ArmKind) (n : FullName) (arms : List Arm) → ascending name_below (arm_names arms) ≡ true → find (kind_and_name k n) arms ≡ of_kind k (arm_of n arms)
find_kind k n [] rising = refl
find_kind k n (a ∷ arms) rising = go (same_kind k a.kind) refl (same_name n a.name) refl (among (arm_names arms) n) refl (find_kind k n arms (ascending_tail name_below a.name (arm_names arms) rising))
  where
    go : (t : Bool) → same_kind k a.kind ≡ t → (b : Bool) → same_name n a.name ≡ b → (there : Bool) → among (arm_names arms) n ≡ there → find (kind_and_name k n) arms ≡ of_kind k (arm_of n arms)
        → cond (t && b) (Some a) (find (kind_and_name k n) arms) ≡ of_kind k (cond b (Some a) (arm_of n arms))
    go true t true b there m more = ap (λ (x : Bool). if x then Some a else None) (sym t)
    go false t true b true m more = absurd (stands_once a.name (arm_names arms) rising (ap (among (arm_names arms)) (sym (same_name-is n a.name b)) ∙ m))
    go false t true b false m more = none_named k n arms m ∙ ap (λ (x : Bool). if x then Some a else None) (sym t)
    go true t false b there m more = more
    go false t false b there m more = more

-- what holds of the arm of each name holds of all arms
pub all_arms : (P : Arm → Type 0) (arms : List Arm) → ascending name_below (arm_names arms) ≡ true → ((n : FullName) (a : Arm) → arm_of n arms ≡ Some a → P a) → AllByRecursion P arms
all_arms P [] rising each = tt
all_arms P (a ∷ arms) rising each = (
  each a.name a (ap (λ b. cond b (Some a) (arm_of a.name arms)) (same_name-itself a.name)),
  all_arms P arms (ascending_tail name_below a.name (arm_names arms) rising) (λ n x found. each n x (later n x (same_name n a.name) refl found)),
)
  where
    named : (n : FullName) (x : Arm) (xs : List Arm) → arm_of n xs ≡ Some x → among (arm_names xs) n ≡ true
    named n x [] e = absurd (cc)
    named n x (y ∷ xs) e = step (same_name n y.name) e (named n x xs)
      where
        step : (b : Bool) → cond b (Some y) (arm_of n xs) ≡ Some x → (arm_of n xs ≡ Some x → among (arm_names xs) n ≡ true) → (b || among (arm_names xs) n) ≡ true
        step true e more = refl
        step false e more = more e

    later : (n : FullName) (x : Arm) (b : Bool) → same_name n a.name ≡ b → arm_of n arms ≡ Some x → cond b (Some a) (arm_of n arms) ≡ Some x
    later n x true same found = absurd (stands_once a.name (arm_names arms) rising (ap (among (arm_names arms)) (sym (same_name-is n a.name same)) ∙ named n x arms found))
    later n x false same found = found

-- arms of requests

abbrev pub is_ask : Arm → Type 0
is_ask a = a.kind ≡ Ask

-- the setting of a request, where there is one
abbrev pub ask_if : Bool → ℕ → ℕ → Option WaitBasis
ask_if b exponent distance = if b then Some (asks.ask_basis exponent distance) else None

set_kind : (a : Arm) (b : Bool) (i d : ℕ) → Some (wait_basis a) ≡ ask_if b i d → a.kind ≡ Ask
set_kind a true i d e = let s : wait_basis a ≡ asks.ask_basis i d = cc in ap (λ (t : WaitBasis). t.kind) s
set_kind a false i d e = absurd (cc)

pub asks_of : (o : Option Arm) (b : Bool) (i d : ℕ) → option_map wait_basis o ≡ ask_if b i d → of_kind Ask o ≡ o
asks_of None b i d e = refl
asks_of (Some a) b i d e = ap (λ (k : ArmKind). if same_kind Ask k then Some a else None) (set_kind a b i d e)

pub fixes_of : (o : Option Arm) (b : Bool) (i d : ℕ) → option_map wait_basis o ≡ ask_if b i d → of_kind Fix o ≡ None
fixes_of None b i d e = refl
fixes_of (Some a) b i d e = ap (λ (k : ArmKind). if same_kind Fix k then Some a else None) (set_kind a b i d e)

pub is_armed : (o : Option Arm) (b : Bool) (i d : ℕ) → option_map wait_basis o ≡ ask_if b i d → is_some o ≡ b
is_armed None true i d e = absurd (cc)
is_armed None false i d e = refl
is_armed (Some a) true i d e = refl
is_armed (Some a) false i d e = absurd (cc)

-- where each arm has the setting of a request, all are requests
pub all_asks : (arms : List Arm) (b : FullName → Bool) (i d : FullName → ℕ) → ascending name_below (arm_names arms) ≡ true
    → ((n : FullName) → option_map wait_basis (arm_of n arms) ≡ ask_if (b n) (i n) (d n)) → AllByRecursion is_ask arms
all_asks arms b i d rising exact = all_arms is_ask arms rising (λ n a found. set_kind a (b n) (i n) (d n) (ap (option_map wait_basis) (sym found) ∙ exact n))

-- waits

pub ask_low : (c : Config) (a : Arm) → a.kind ≡ Ask → timers.low_of c.c1 a ≡ low_of c a
ask_low c a e = rw e refl

pub ask_high : (c : Config) (a : Arm) → a.kind ≡ Ask → timers.high_of c.c1 c.c2 a ≡ high_of c a
ask_high c a e = rw e refl

-- an arm that is drawn by one pair of ends is drawn by another that is the same
one_drawn : (wait word low low' high high' : ℕ) → low ≡ low' → high ≡ high' → wait ≡ low + word % (high - low + 1) → wait ≡ low' + word % (high' - low' + 1)
one_drawn wait word low low' high high' p q e = rw (sym p, sym q) e

pub chosen_asks : {W : Type 0} (next_word : W → ℕ × W) (c : Config) (c1 c2 : ℕ) (from to : W) (arms : List Arm) → c1 ≡ c.c1 → c2 ≡ c.c2 → AllByRecursion is_ask arms
    → AreChosen next_word (timers.low_of c1) (timers.high_of c1 c2) from arms to → AreChosen next_word (low_of c) (high_of c) from arms to
chosen_asks next_word c c1 c2 from to [] p q all h = h
chosen_asks next_word c c1 c2 from to (a ∷ arms) p q all h = (
  one_drawn a.wait _ _ _ _ _ (ap (λ x. timers.low_of x a) p ∙ ask_low c a all.0) (ap (λ x. timers.high_of x c2 a) p ∙ ap (λ x. timers.high_of c.c1 x a) q ∙ ask_high c a all.0) h.0,
  chosen_asks next_word c c1 c2 (next_word from).1 to arms p q all.1 h.1,
)

-- what is drawn between two ends lies there
between_ends : (wait word low high : ℕ) → low ≤ high → wait ≡ low + word % (high - low + 1) → (low ≤ wait) × (wait ≤ high)
between_ends wait word low high rises e = let m : word % (high - low + 1) < high - low + 1 = mod_below word (high - low + 1) (omega arith) in (omega (arith, e), omega (arith, e, m, rises))

ends_rise : (c : Config) (a : Arm) → low_of c a ≤ high_of c a
ends_rise c a = go a.kind refl
  where
    go : (k : ArmKind) → a.kind ≡ k → low_of c a ≤ high_of c a
    go Ask e = rw e (mul-le-mul_right a.distance (mul-le-mul_left (2 ^ a.exponent) (omega arith)))
    go Fix e = rw e (mul-le-mul_right a.distance (omega arith))

pub chosen_waits : {W : Type 0} (next_word : W → ℕ × W) (c : Config) (from to : W) (arms : List Arm) → AreChosen next_word (low_of c) (high_of c) from arms to
    → AllByRecursion (λ a. (low_of c a ≤ a.wait) × (a.wait ≤ high_of c a)) arms
chosen_waits next_word c from to [] h = tt
chosen_waits next_word c from to (a ∷ arms) h = (between_ends a.wait _ (low_of c a) (high_of c a) (ends_rise c a) h.0, chosen_waits next_word c (next_word from).1 to arms h.1)
