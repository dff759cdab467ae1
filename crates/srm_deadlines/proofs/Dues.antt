-- What is first, what is named and what is due in lists in order.
use Rattle.std.proofs.Common.{◌≡◌, ℕ, zero, suc, ◌+◌, ◌<◌, ◌≤◌, Bool, true, false, cond, ◌||◌, List, [], ◌∷◌, map, length, take, get_or, refl, sym, ap, subst, ◌∙◌, arith, inl, inr}
use Rattle.std.specs.Prelude.{filter, Option, Some, None, IfSome, slice_get, Result, Ok, Err, is_ok}
use Rattle.std.specs.declared.cmp.Ordering.{Ordering}
use Rattle.std.specs.declared.cmp.Ordering.TheVariants.{Less, Equal, Greater}
use Rattle.std.specs.List.{list_any, All}
use Rattle.std.specs.List.Sorted.{IsPermutation, IsSorted, IsSortedBy, IsPartitionPoint, IsBinarySearchResult, IsSearchInRange}
use Rattle.std.specs.Ordering.{is_lt}
use Rattle.std.proofs.lemmas.Bool.{and_from, and_parts, cases_lt, or_right}
use Rattle.std.proofs.lemmas.Cmp.{tied_itself}
use Rattle.std.proofs.lemmas.List.{map-id}
use Rattle.std.proofs.lemmas.List.Sorted.{searchable_from_sorted, list_any-IsPermutation}
use Rattle.srm_names.specs.FullName.{FullName}
use Rattle.srm_names.specs.Names.{same_name, name_below, ascending, among, AreExactly}
use Rattle.srm_names.proofs.Orders.{name_order as names_in_order}
use Rattle.srm_names.proofs.Same.{same_name-is, same_name-itself}
use Rattle.srm_deadlines.specs.declared.timed.Timed.{Timed}
use Rattle.srm_deadlines.specs.Places.{is_timed, names_of}
use Rattle.srm_deadlines.specs.Agenda.{of_name, is_due, name_order}
use Rattle.srm_deadlines.proofs.Agendas.{same_count}
use Rattle.srm_deadlines.proofs.Orders.{IsInOrder, moments_rise, name_total, name_equal, name_lt_is}

-- ---- the first

pub first_least : (xs : List Timed) (r : Option Timed) → r ≡ slice_get xs 0 → IsInOrder xs → IfSome r (λ first. All (λ (t : Timed). first.moment ≤ t.moment) xs)
first_least xs None e sorted = tt
first_least [] (Some first) e sorted = absurd (cc)
first_least (x ∷ xs) (Some first) e sorted = λ k d lt.
    let same : first ≡ x = cc in
    subst (λ (f : Timed). f.moment ≤ (get_or (x ∷ xs) k d).moment) (sym same) (moments_rise (x ∷ xs) sorted 0 k d (omega arith) lt)

-- ---- the named

not_above : (a b : FullName) → name_below a b ≡ true → is_lt (name_order b a) ≡ false
not_above a b below = name_lt_is b a ∙ go (name_below b a) refl
  where
    go : (c : Bool) → name_below b a ≡ c → c ≡ false
    go false e = refl
    go true e = absurd (let k : true ≡ false = sym (names_in_order.transitive a b a below e) ∙ names_in_order.irreflexive a in cc)

-- a search for a name in a list whose names rise
module _ {X : Type 0} (key : X → FullName) where
  names_sorted : (xs : List X) → ascending name_below (map key xs) ≡ true → IsSortedBy (λ (a b : X). is_lt (name_order (key a) (key b))) xs
  names_sorted [] asc k d low high = absurd (omega arith)
  names_sorted (x ∷ []) asc k d low high = absurd (omega arith)
  names_sorted (x ∷ y ∷ xs) asc zero d low high = not_above (key x) (key y) (and_parts (name_below (key x) (key y)) (ascending name_below (map key (y ∷ xs))) asc).0
  names_sorted (x ∷ y ∷ xs) asc (suc j) d low high =
      ap (λ m. is_lt (name_order (key (get_or (x ∷ y ∷ xs) m d)) (key (get_or (y ∷ xs) j d)))) (let e : suc j + 1 ≡ suc (j + 1) = omega arith in e)
      ∙ names_sorted (y ∷ xs) (and_parts (name_below (key x) (key y)) (ascending name_below (map key (y ∷ xs))) asc).1 j d (omega arith) (omega arith)

  stands_at : (xs : List X) (n : FullName) → among (map key xs) n ≡ true → (k : ℕ) × (k < length xs) × ((d : X) → key (get_or xs k d) ≡ n)
  stands_at [] n e = absurd (let k : false ≡ true = e in cc)
  stands_at (x ∷ xs) n e = go (same_name n (key x)) refl (stands_at xs n) e
    where
      go : (b : Bool) → same_name n (key x) ≡ b → (among (map key xs) n ≡ true → (k : ℕ) × (k < length xs) × ((d : X) → key (get_or xs k d) ≡ n)) → (b || among (map key xs) n) ≡ true
          → (k : ℕ) × (k < length (x ∷ xs)) × ((d : X) → key (get_or (x ∷ xs) k d) ≡ n)
      go true f more h = (0, omega arith, λ d. sym (same_name-is n (key x) f))
      go false f more h = let (k, l, at) = more h in (suc k, omega arith, at)

  found_among : (xs : List X) (i : ℕ) (d : X) → i < length xs → among (map key xs) (key (get_or xs i d)) ≡ true
  found_among [] i d lt = absurd (omega arith)
  found_among (x ∷ xs) zero d lt = ap (λ b. b || among (map key xs) (key x)) (same_name-itself (key x))
  found_among (x ∷ xs) (suc i) d lt = or_right (same_name (key (get_or xs i d)) (key x)) _ (found_among xs i d (omega arith))

  pub is_found_by : (xs : List X) (n : FullName) (d : X) (r : Result ℕ ℕ) → ascending name_below (map key xs) ≡ true → IsSearchInRange r (length xs) → IsBinarySearchResult (λ (x : X). name_order (key x) n) xs r
      → is_ok r ≡ among (map key xs) n
  is_found_by xs n d (Ok i) asc within found = sym (subst (λ m. among (map key xs) m ≡ true) (name_equal (key (get_or xs i d)) n (found d)) (found_among xs i d within))
  is_found_by xs n d (Err i) asc within found = go (among (map key xs) n) refl
    where
      go : (b : Bool) → among (map key xs) n ≡ b → false ≡ b
      go false e = refl
      go true e =
          let (k, lt, at) = stands_at xs n e in
          let parts = found (searchable_from_sorted name_total key xs n (names_sorted xs asc)) in
          let same : name_order (key (get_or xs k d)) n ≡ Equal = ap (λ m. name_order m n) (at d) ∙ tied_itself name_total n in
          elim (cases_lt k i) [
            | inl before ↦ (let less : name_order (key (get_or xs k d)) n ≡ Less = parts.0 k d (omega arith) before in absurd (cc))
            | inr after ↦ (let more : name_order (key (get_or xs k d)) n ≡ Greater = parts.1 k d after lt in absurd (cc))
          ]

pub is_named_by : (xs : List Timed) (n : FullName) (r : Result ℕ ℕ) → ascending name_below (names_of xs) ≡ true → IsSearchInRange r (length xs) → IsBinarySearchResult (λ (t : Timed). name_order t.name n) xs r → is_ok r ≡ among (names_of xs) n
is_named_by xs n r asc within found = is_found_by (λ (t : Timed). t.name) xs n (record { moment = 0; name = n }) r asc within found

pub is_listed_by : (xs : List FullName) (n : FullName) (r : Result ℕ ℕ) → ascending name_below xs ≡ true → IsSearchInRange r (length xs) → IsBinarySearchResult (λ (m : FullName). name_order m n) xs r → is_ok r ≡ among xs n
is_listed_by xs n r asc within found = is_found_by (λ (m : FullName). m) xs n n r (ap (ascending name_below) (map-id xs) ∙ asc) within found ∙ ap (λ ns. among ns n) (map-id xs)

-- ---- the due

-- the front up to a partition point is what passes
pub front_passes : {X : Type 0} (p : X → Bool) (xs : List X) (i : ℕ) → i ≤ length xs → IsPartitionPoint (λ x. p x ≡ true) (λ x. p x ≡ false) xs i → take i xs ≡ filter p xs
front_passes p [] zero le parts = refl
front_passes p [] (suc i) le parts = refl
front_passes p (x ∷ xs) zero le parts =
    front_passes p xs zero (omega arith) ((λ k d low high. absurd (omega arith)), (λ k d low high. parts.1 (suc k) d (omega arith) (omega arith)))
    ∙ ap (λ b. cond b (x ∷ filter p xs) (filter p xs)) (sym (parts.1 0 x (omega arith) (omega arith)))
front_passes p (x ∷ xs) (suc i) le parts =
    ap (λ ys. x ∷ ys) (front_passes p xs i (omega arith) ((λ k d low high. parts.0 (suc k) d (omega arith) (omega arith)), (λ k d low high. parts.1 (suc k) d (omega arith) (omega arith))))
    ∙ ap (λ b. cond b (x ∷ filter p xs) (filter p xs)) (sym (parts.0 0 x (omega arith) (omega arith)))

pub any_both : {X : Type 0} (p q : X → Bool) (xs : List X) → list_any p (filter q xs) ≡ list_any q (filter p xs)
any_both p q [] = refl
any_both p q (x ∷ xs) = go (p x) refl (q x) refl (any_both p q xs)
  where
    go : (a : Bool) → p x ≡ a → (b : Bool) → q x ≡ b → list_any p (filter q xs) ≡ list_any q (filter p xs)
        → list_any p (cond b (x ∷ filter q xs) (filter q xs)) ≡ list_any q (cond a (x ∷ filter p xs) (filter p xs))
    go true e true f h = ap (λ c. c || list_any p (filter q xs)) e ∙ ap (λ c. c || list_any q (filter p xs)) (sym f)
    go true e false f h = h ∙ ap (λ c. c || list_any q (filter p xs)) (sym f)
    go false e true f h = ap (λ c. c || list_any p (filter q xs)) e ∙ h
    go false e false f h = h

pub among_names : (xs : List Timed) (n : FullName) → among (names_of xs) n ≡ list_any (is_timed n) xs
among_names [] n = refl
among_names (x ∷ xs) n = ap (λ b. same_name n x.name || b) (among_names xs n)

pub names_counted : (xs : List Timed) (n : FullName) → length (filter (same_name n) (names_of xs)) ≡ length (of_name n xs)
names_counted [] n = refl
names_counted (x ∷ xs) n = go (same_name n x.name) (names_counted xs n)
  where
    go : (b : Bool) → length (filter (same_name n) (names_of xs)) ≡ length (of_name n xs)
        → length (cond b (x.name ∷ filter (same_name n) (names_of xs)) (filter (same_name n) (names_of xs))) ≡ length (cond b (x ∷ of_name n xs) (of_name n xs))
    go true h = ap suc h
    go false h = h

pub fewer : {X : Type 0} (p q : X → Bool) (xs : List X) → length (filter p (filter q xs)) ≤ length (filter p xs)
fewer p q [] = omega arith
fewer p q (x ∷ xs) = go (p x) refl (q x) (fewer p q xs)
  where
    go : (a : Bool) → p x ≡ a → (b : Bool) → length (filter p (filter q xs)) ≤ length (filter p xs) → length (filter p (cond b (x ∷ filter q xs) (filter q xs))) ≤ length (cond a (x ∷ filter p xs) (filter p xs))
    go true e true h = subst (λ c. length (cond c (x ∷ filter p (filter q xs)) (filter p (filter q xs))) ≤ length (x ∷ filter p xs)) (sym e) (omega arith)
    go true e false h = omega arith
    go false e true h = subst (λ c. length (cond c (x ∷ filter p (filter q xs)) (filter p (filter q xs))) ≤ length (filter p xs)) (sym e) h
    go false e false h = h

-- what is sorted and stands once each rises
pub rise_by : {X : Type 0} (order : X → X → Ordering) (below same : X → X → Bool) → ((a b : X) → is_lt (order a b) ≡ below a b) → ((a b : X) → same a b ≡ false → below b a ≡ false → below a b ≡ true)
    → ((a : X) → same a a ≡ true) → (xs : List X) → IsSorted order xs → ((x : X) → length (filter (same x) xs) ≤ 1) → ascending below xs ≡ true
rise_by order below same lt_is next itself [] sorted once = refl
rise_by order below same lt_is next itself (a ∷ []) sorted once = refl
rise_by order below same lt_is next itself (a ∷ b ∷ xs) sorted once =
    and_from _ _ (next a b (differ (same a b) refl) (sym (lt_is b a) ∙ sorted 0 a (omega arith) (omega arith))) (rise_by order below same lt_is next itself (b ∷ xs) tail shorter)
  where
    differ : (e : Bool) → same a b ≡ e → same a b ≡ false
    differ false e = e
    differ true e =
        let k : length (a ∷ b ∷ filter (same a) xs) ≤ 1 =
        subst (λ c. length (a ∷ cond c (b ∷ filter (same a) xs) (filter (same a) xs)) ≤ 1) e
        (subst (λ c. length (cond c (a ∷ filter (same a) (b ∷ xs)) (filter (same a) (b ∷ xs))) ≤ 1) (itself a) (once a)) in
        absurd (omega arith)

    tail : IsSorted order (b ∷ xs)
    tail k d low high =
        ap (λ m. is_lt (order (get_or (a ∷ b ∷ xs) m d) (get_or (b ∷ xs) k d))) (let e : suc (k + 1) ≡ suc k + 1 = omega arith in e) ∙ sorted (suc k) d (omega arith) (omega arith)

    shorter : (x : _) → length (filter (same x) (b ∷ xs)) ≤ 1
    shorter x = go (same x a) (once x)
      where
        go : (c : Bool) → length (cond c (a ∷ filter (same x) (b ∷ xs)) (filter (same x) (b ∷ xs))) ≤ 1 → length (filter (same x) (b ∷ xs)) ≤ 1
        go true h = omega arith
        go false h = h

-- names among them
pub rise : (ns : List FullName) → IsSorted name_order ns → ((n : FullName) → length (filter (same_name n) ns) ≤ 1) → ascending name_below ns ≡ true
rise ns sorted once = rise_by name_order name_below same_name name_lt_is next same_name-itself ns sorted once
  where
    next : (a b : FullName) → same_name a b ≡ false → name_below b a ≡ false → name_below a b ≡ true
    next a b e f = elim (names_in_order.total a b) [
      | inl below ↦ below
      | inr (inl same) ↦ absurd (let k : true ≡ false = sym (subst (λ n. same_name a n ≡ true) same (same_name-itself a)) ∙ e in cc)
      | inr (inr above) ↦ absurd (let k : true ≡ false = sym above ∙ f in cc)
    ]

pub due_names : (now : ℕ) (pairs : List Timed) (count : ℕ) (names sorted : List FullName) → ((n : FullName) → length (of_name n pairs) ≤ 1) → count ≤ length pairs
    → IsPartitionPoint (λ t. is_due now t ≡ true) (λ t. is_due now t ≡ false) pairs count → names ≡ names_of (take count pairs) → IsPermutation names sorted → IsSorted name_order sorted
    → AreExactly (λ n. list_any (is_due now) (of_name n pairs)) sorted
due_names now pairs count names sorted once le parts are moved in_order = record {
  in_order = rise sorted in_order (λ n. subst (λ k. k ≤ 1) (sym (same_count (same_name n) names sorted moved ∙ ap (λ ns. length (filter (same_name n) ns)) front ∙ names_counted (filter (is_due now) pairs) n)) (few n));
  exact = λ n. sym (list_any-IsPermutation (same_name n) names sorted moved) ∙ ap (λ ns. among ns n) front ∙ among_names (filter (is_due now) pairs) n ∙ any_both (is_timed n) (is_due now) pairs;
}
  where
    front : names ≡ names_of (filter (is_due now) pairs)
    front = are ∙ ap names_of (front_passes (is_due now) pairs count le parts)

    few : (n : FullName) → length (of_name n (filter (is_due now) pairs)) ≤ 1
    few n = let l = fewer (is_timed n) (is_due now) pairs in let k = once n in omega arith
