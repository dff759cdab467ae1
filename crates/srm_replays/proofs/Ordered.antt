-- Lists in order are the same if at each key the same is found.
use Rattle.std.proofs.Common.{◌≡◌, Bool, true, false, ◌&&◌, ◌||◌, List, [], ◌∷◌, map, refl, ap, sym, ◌∙◌, subst, inl, inr}
use Rattle.std.specs.Prelude.{◌⊎◌, Option, Some, None, is_some, option_map, cond, find, nat_lt}
use Rattle.std.proofs.lemmas.Bool.{both_ways, false_from_ne_true, or_parts}
use Rattle.std.proofs.lemmas.Option.{none-some, same_Some}
use Rattle.srm_names.specs.declared.stream.Stream.{Stream}
use Rattle.srm_names.specs.FullName.{FullName}
use Rattle.srm_names.specs.Names.{same_stream, same_name, stream_below, name_below, ascending, named, among, AreExactly}
use Rattle.srm_names.proofs.Lists.{any_found}
use Rattle.srm_names.proofs.Orders.{and_left, and_right, stream_below_trans, name_order}
use Rattle.srm_names.proofs.Rising.{ascending_tail}
use Rattle.srm_names.proofs.Same.{same_stream-is, same_stream-itself, same_name-is, same_name-itself, name_parts}
use Rattle.srm_codec.specs.Spelling.{row_below}
use Rattle.srm_store.specs.Finals.{number_in_rows}
use Rattle.srm_timers.specs.declared.arm.Arm.{Arm}
use Rattle.srm_timers.specs.Arms.{WaitBasis, ArmsAre, arm_of, wait_basis, plan_of}

-- how keys are told apart, and their order
pub record IsKeyOrder {K : Type 0} (same below : K → K → Bool) : Type 0 where
  pub itself : (a : K) → same a a ≡ true
  pub is : (a b : K) → same a b ≡ true → a ≡ b
  pub irreflexive : (a : K) → below a a ≡ false
  pub transitive : (a b c : K) → below a b ≡ true → below b c ≡ true → below a c ≡ true
  pub total : (a b : K) → (below a b ≡ true) ⊎ ((a ≡ b) ⊎ (below b a ≡ true))

abbrev pub found : {X K : Type 0} → (X → K) → (K → K → Bool) → K → List X → Option X
found key same k xs = find (λ x. same k (key x)) xs

abbrev pub rising : {X K : Type 0} → (X → K) → (K → K → Bool) → List X → Bool
rising key below xs = ascending (λ x y. below (key x) (key y)) xs

-- what a key finds
module _ {X K : Type 0} (key : X → K) (same below : K → K → Bool) (order : IsKeyOrder same below) where
  apart : (a b : K) → below a b ≡ true → same a b ≡ false
  apart a b l = false_from_ne_true (same a b) (λ s. both_ways (below a a) (order.irreflexive a) (subst (λ x. below a x ≡ true) (sym (order.is a b s)) l))

  found_first : (k : K) (x : X) (xs : List X) → k ≡ key x → found key same k (x ∷ xs) ≡ Some x
  found_first k x xs e = ap (λ b. cond b (Some x) (found key same k xs)) (subst (λ j. same k j ≡ true) e (order.itself k))

  found_past : (k : K) (x : X) (xs : List X) → same k (key x) ≡ false → found key same k (x ∷ xs) ≡ found key same k xs
  found_past k x xs e = ap (λ b. cond b (Some x) (found key same k xs)) e

  -- no key below the first
  none_below : (k : K) (x : X) (xs : List X) → rising key below (x ∷ xs) ≡ true → below k (key x) ≡ true → found key same k (x ∷ xs) ≡ None
  none_below k x [] r l = found_past k x [] (apart k (key x) l)
  none_below k x (y ∷ ys) r l =
      found_past k x (y ∷ ys) (apart k (key x) l)
      ∙ none_below k y ys (and_right (below (key x) (key y)) (rising key below (y ∷ ys)) r) (order.transitive k (key x) (key y) l (and_left (below (key x) (key y)) (rising key below (y ∷ ys)) r))

  -- nor the first a second time
  none_again : (x : X) (xs : List X) → rising key below (x ∷ xs) ≡ true → found key same (key x) xs ≡ None
  none_again x [] r = refl
  none_again x (y ∷ ys) r = none_below (key x) y ys (and_right (below (key x) (key y)) (rising key below (y ∷ ys)) r) (and_left (below (key x) (key y)) (rising key below (y ∷ ys)) r)

  rising_rest : (x : X) (xs : List X) → rising key below (x ∷ xs) ≡ true → rising key below xs ≡ true
  rising_rest x xs r = ascending_tail (λ (u v : X). below (key u) (key v)) x xs r

-- Of what is found only `look` is compared: it tells whether anything is, and what of it makes the part.
module _ {X K O P : Type 0} (key : X → K) (same below : K → K → Bool) (look : Option X → O) (part : X → P) (order : IsKeyOrder same below)
    (tells : (x : X) → look None ≡ look (Some x) → ⊥) (parts : (x y : X) → key x ≡ key y → look (Some x) ≡ look (Some y) → part x ≡ part y) where
  rest_alike : (x y : X) (xs ys : List X) → rising key below (x ∷ xs) ≡ true → rising key below (y ∷ ys) ≡ true
      → ((k : K) → look (found key same k (x ∷ xs)) ≡ look (found key same k (y ∷ ys))) → key x ≡ key y
      → (k : K) (b : Bool) → same k (key x) ≡ b → look (found key same k xs) ≡ look (found key same k ys)
  rest_alike x y xs ys r s f e k true q =
      let at : k ≡ key x = order.is k (key x) q in
      ap look (ap (λ j. found key same j xs) at ∙ none_again key same below order x xs r ∙ sym (none_again key same below order y ys s) ∙ ap (λ j. found key same j ys) (sym (at ∙ e)))
  rest_alike x y xs ys r s f e k false q =
      ap look (sym (found_past key same below order k x xs q)) ∙ f k ∙ ap look (found_past key same below order k y ys (ap (same k) (sym e) ∙ q))

  first_alike : (x y : X) (xs ys : List X) → rising key below (x ∷ xs) ≡ true → rising key below (y ∷ ys) ≡ true
      → ((k : K) → look (found key same k (x ∷ xs)) ≡ look (found key same k (y ∷ ys))) → (key x ≡ key y) × (part x ≡ part y)
  first_alike x y xs ys r s f = elim (order.total (key x) (key y)) [
    | inl l ↦ absurd (tells x (sym (f (key x) ∙ ap look (none_below key same below order (key x) y ys s l)) ∙ ap look (found_first key same below order (key x) x xs refl)))
    | inr (inl e) ↦ (e, parts x y e (sym (ap look (found_first key same below order (key x) x xs refl)) ∙ f (key x) ∙ ap look (found_first key same below order (key x) y ys e)))
    | inr (inr l) ↦ absurd (tells y (sym (ap look (none_below key same below order (key y) x xs r l)) ∙ f (key y) ∙ ap look (found_first key same below order (key y) y ys refl)))
  ]

  same_parts : (xs ys : List X) → rising key below xs ≡ true → rising key below ys ≡ true → ((k : K) → look (found key same k xs) ≡ look (found key same k ys)) → map part xs ≡ map part ys
  same_parts [] [] r s f = refl
  same_parts [] (y ∷ ys) r s f = absurd (tells y (f (key y) ∙ ap look (found_first key same below order (key y) y ys refl)))
  same_parts (x ∷ xs) [] r s f = absurd (tells x (sym (f (key x)) ∙ ap look (found_first key same below order (key x) x xs refl)))
  same_parts (x ∷ xs) (y ∷ ys) r s f =
      let first = first_alike x y xs ys r s f in
      ap (λ p. p ∷ map part xs) first.1
      ∙ ap (λ ps. part y ∷ ps) (same_parts xs ys (rising_rest key same below order x xs r) (rising_rest key same below order y ys s) (λ k. rest_alike x y xs ys r s f first.0 k (same k (key x)) refl))

-- names and streams

name_keys : IsKeyOrder same_name name_below
name_keys = record {
  itself = same_name-itself;
  is = same_name-is;
  irreflexive = name_order.irreflexive;
  transitive = name_order.transitive;
  total = name_order.total;
}

stream_keys : IsKeyOrder same_stream stream_below
stream_keys = record {
  itself = same_stream-itself;
  is = same_stream-is;
  irreflexive = λ a. (or_parts (stream_below a a) (same_stream a a && nat_lt 0 0) (name_order.irreflexive (named a 0))).0;
  transitive = stream_below_trans;
  total = λ a b. elim (name_order.total (named a 0) (named b 0)) [
    | inl l ↦ inl (only_first (stream_below a b) (same_stream a b) l)
    | inr (inl e) ↦ inr (inl (ap (λ (n : FullName). n.stream) e))
    | inr (inr l) ↦ inr (inr (only_first (stream_below b a) (same_stream b a) l))
  ];
}
  where
    only_first : (a b : Bool) → (a || b && false) ≡ true → a ≡ true
    only_first true b e = refl
    only_first false true e = e
    only_first false false e = e

map_itself : {X : Type 0} (xs : List X) → map (λ (x : X). x) xs ≡ xs
map_itself [] = refl
map_itself (x ∷ xs) = ap (λ ys. x ∷ ys) (map_itself xs)

-- names that pass the same test
pub same_names : (p q : FullName → Bool) (xs ys : List FullName) → AreExactly p xs → AreExactly q ys → ((n : FullName) → p n ≡ q n) → xs ≡ ys
same_names p q xs ys are also same =
    sym (map_itself xs)
    ∙ same_parts (λ (n : FullName). n) same_name name_below is_some (λ (n : FullName). n) name_keys (λ x e. absurd (cc)) (λ x y e k. e) xs ys are.in_order also.in_order
    (λ n. sym (any_found (same_name n) xs) ∙ are.exact n ∙ same n ∙ sym (also.exact n) ∙ any_found (same_name n) ys)
    ∙ map_itself ys

-- rows that say the same of each stream
pub same_rows : (xs ys : List FullName) → ascending row_below xs ≡ true → ascending row_below ys ≡ true → ((s : Stream) → number_in_rows xs s ≡ number_in_rows ys s) → xs ≡ ys
same_rows xs ys r s same =
    sym (map_itself xs)
    ∙ same_parts (λ (n : FullName). n.stream) same_stream stream_below (option_map (λ (n : FullName). n.number)) (λ (n : FullName). n) stream_keys (λ x e. none-some x.number e)
    (λ x y e k. name_parts x y e (same_Some x.number y.number k)) xs ys r s same
    ∙ map_itself ys

ascending-map : {X K : Type 0} (key : X → K) (below : K → K → Bool) (xs : List X) → ascending below (map key xs) ≡ rising key below xs
ascending-map key below [] = refl
ascending-map key below (x ∷ []) = refl
ascending-map key below (x ∷ y ∷ xs) = ap (λ b. below (key x) (key y) && b) (ascending-map key below (y ∷ xs))

-- arms on the same bases are the same but for their waits
pub same_plans : (b d : FullName → Option WaitBasis) (xs ys : List Arm) → ArmsAre b xs → ArmsAre d ys → ((n : FullName) → b n ≡ d n) → map plan_of xs ≡ map plan_of ys
same_plans b d xs ys are also same =
    same_parts (λ (a : Arm). a.name) same_name name_below (option_map wait_basis) plan_of name_keys (λ x e. none-some (wait_basis x) e)
    (λ x y e k. plan_parts x y e (same_Some (wait_basis x) (wait_basis y) k)) xs ys
    (sym (ascending-map (λ (a : Arm). a.name) name_below xs) ∙ are.in_order) (sym (ascending-map (λ (a : Arm). a.name) name_below ys) ∙ also.in_order)
    (λ n. are.exact n ∙ same n ∙ sym (also.exact n))
  where
    plan_parts : (x y : Arm) → x.name ≡ y.name → wait_basis x ≡ wait_basis y → plan_of x ≡ plan_of y
    plan_parts x y e f = ap (λ (n : FullName). record { name = n; wait_basis = wait_basis x }) e ∙ ap (λ (w : WaitBasis). record { name = y.name; wait_basis = w }) f

-- where no name is armed, no arm is there
pub no_plans : (b : FullName → Option WaitBasis) (xs : List Arm) → ArmsAre b xs → ((n : FullName) → b n ≡ None) → xs ≡ []
no_plans b [] are none = refl
no_plans b (x ∷ xs) are none =
    let at : arm_of x.name (x ∷ xs) ≡ Some x = found_first (λ (a : Arm). a.name) same_name name_below name_keys x.name x xs refl in
    absurd (none-some (wait_basis x) (sym (none x.name) ∙ sym (are.exact x.name) ∙ ap (option_map wait_basis) at))

-- and where no name passes, no name
pub no_names : (p : FullName → Bool) (xs : List FullName) → AreExactly p xs → ((n : FullName) → p n ≡ false) → xs ≡ []
no_names p [] are none = refl
no_names p (x ∷ xs) are none = absurd (both_ways (among (x ∷ xs) x) (are.exact x ∙ none x) (ap (λ b. b || among xs x) (same_name-itself x)))
