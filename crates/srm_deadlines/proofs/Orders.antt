-- The order of names with moments, and lists that are sorted by it.
use Rattle.std.proofs.Common.{◌≡◌, ℕ, zero, suc, ◌+◌, ◌<◌, ◌≤◌, ◌==◌, Bool, true, false, cond, ◌&&◌, ◌||◌, List, length, get_or, refl, sym, ap, ◌∙◌, arith, inl, inr, ◌⊎◌, add-one}
use Rattle.std.specs.Prelude.{nat_lt, filter, Err}
use Rattle.std.specs.Cmp.{IsTotalOrder, IsStrictWeakOrder}
use Rattle.std.specs.declared.cmp.Ordering.{Ordering}
use Rattle.std.specs.declared.cmp.Ordering.TheVariants.{Less, Equal, Greater}
use Rattle.std.specs.List.{insert, remove, AllWithin}
use Rattle.std.specs.List.Sorted.{IsSortedBy, IsSorted, IsPartitionedBy, IsPartitionPoint, IsBinarySearchResult, IsNonDecreasingBy}
use Rattle.std.specs.Ordering.{ordering_then, ordering_reverse, ordering_index, nat_cmp, is_lt, is_eq}
use Rattle.std.proofs.lemmas.Bool.{cases_lt, cases_order, lt-ltb}
use Rattle.std.proofs.lemmas.Bool.Decides.{nat_tests}
use Rattle.std.proofs.lemmas.Cmp.{nat_cmp_total, on_total, then_total, tied_itself}
use Rattle.std.proofs.lemmas.List.Edits.{length-insert, length-remove, get_or-insert_below, get_or-insert_at, get_or-insert_above, get_or-remove_below, get_or-remove_above}
use Rattle.std.proofs.lemmas.List.Kept.{IsSortedBy-filter}
use Rattle.std.proofs.lemmas.List.MinMax.{ranks_by}
use Rattle.std.proofs.lemmas.List.Sorted.{sorted_far, searchable_from_sorted}
use Rattle.std.proofs.lemmas.Map.Lookups.{exact_unsigned}
use Rattle.srm_names.specs.declared.page.Page.{Page}
use Rattle.srm_names.specs.declared.stream.Stream.{Stream}
use Rattle.srm_names.specs.FullName.{FullName}
use Rattle.srm_names.specs.Names.{same_page, same_stream, page_below, stream_below, name_below}
use Rattle.srm_deadlines.specs.declared.timed.Timed.{Timed}
use Rattle.srm_names.proofs.Lists.{Has, Has-Contains}
use Rattle.srm_deadlines.specs.Agenda.{page_order, stream_order, name_order, timed_order}

-- ---- the laws

page_total : IsTotalOrder page_order
page_total = then_total (on_total (λ (p : Page). p.creator) nat_cmp_total) (on_total (λ (p : Page). p.number) nat_cmp_total)

stream_total : IsTotalOrder stream_order
stream_total = then_total (on_total (λ (s : Stream). s.source) nat_cmp_total) (on_total (λ (s : Stream). s.page) page_total)

pub name_total : IsTotalOrder name_order
name_total = then_total (on_total (λ (n : FullName). n.stream) stream_total) (on_total (λ (n : FullName). n.number) nat_cmp_total)

pub timed_total : IsTotalOrder timed_order
timed_total = then_total (on_total (λ (t : Timed). t.moment) nat_cmp_total) (on_total (λ (t : Timed). t.name) name_total)

pub timed_ranks : IsStrictWeakOrder (λ (a b : Timed). is_lt (timed_order a b))
timed_ranks = ranks_by timed_total (λ (t : Timed). t)

-- ---- what is equal by the order is equal

both_equal : (o p : Ordering) → ordering_then o p ≡ Equal → (o ≡ Equal) × (p ≡ Equal)
both_equal Less p e = absurd (cc)
both_equal Equal p e = (refl, e)
both_equal Greater p e = absurd (cc)

page_equal : (a b : Page) → page_order a b ≡ Equal → a ≡ b
page_equal a b e =
    let k = both_equal (nat_cmp a.creator b.creator) (nat_cmp a.number b.number) e in
    ap (λ (c : ℕ). record { creator = c; number = a.number }) (exact_unsigned _ _ k.0) ∙ ap (λ (n : ℕ). record { creator = b.creator; number = n }) (exact_unsigned _ _ k.1)

stream_equal : (a b : Stream) → stream_order a b ≡ Equal → a ≡ b
stream_equal a b e =
    let k = both_equal (nat_cmp a.source b.source) (page_order a.page b.page) e in
    ap (λ (c : ℕ). record { source = c; page = a.page }) (exact_unsigned _ _ k.0) ∙ ap (λ (n : Page). record { source = b.source; page = n }) (page_equal _ _ k.1)

pub name_equal : (a b : FullName) → name_order a b ≡ Equal → a ≡ b
name_equal a b e =
    let k = both_equal (stream_order a.stream b.stream) (nat_cmp a.number b.number) e in
    ap (λ (c : Stream). record { stream = c; number = a.number }) (stream_equal _ _ k.0) ∙ ap (λ (n : ℕ). record { stream = b.stream; number = n }) (exact_unsigned _ _ k.1)

pub timed_equal : (a b : Timed) → timed_order a b ≡ Equal → a ≡ b
timed_equal a b e =
    let k = both_equal (nat_cmp a.moment b.moment) (name_order a.name b.name) e in
    ap (λ (c : ℕ). record { moment = c; name = a.name }) (exact_unsigned _ _ k.0) ∙ ap (λ (n : FullName). record { moment = b.moment; name = n }) (name_equal _ _ k.1)

-- ---- the order of names is theirs

lt_then : (o p : Ordering) → is_lt (ordering_then o p) ≡ (is_lt o || is_eq o && is_lt p)
lt_then Less p = refl
lt_then Equal p = refl
lt_then Greater p = refl

eq_then : (o p : Ordering) → is_eq (ordering_then o p) ≡ (is_eq o && is_eq p)
eq_then Less p = refl
eq_then Equal p = refl
eq_then Greater p = refl

nat_lt_is : (a b : ℕ) → is_lt (nat_cmp a b) ≡ nat_lt a b
nat_lt_is a b = go (nat_lt a b) (a == b)
  where
    go : (x y : Bool) → is_lt (cond x Less (cond y Equal Greater)) ≡ x
    go true y = refl
    go false true = refl
    go false false = refl

nat_eq_is : (a b : ℕ) → is_eq (nat_cmp a b) ≡ (a == b)
nat_eq_is a b = go (nat_lt a b) refl (a == b) refl
  where
    go : (x : Bool) → nat_lt a b ≡ x → (y : Bool) → (a == b) ≡ y → is_eq (cond x Less (cond y Equal Greater)) ≡ y
    go true e true f = absurd (let k : a < b = grind (arith, nat_tests, e) in let l : a ≡ b = grind (arith, nat_tests, f) in omega arith)
    go true e false f = refl
    go false e true f = refl
    go false e false f = refl

pub page_lt_is : (a b : Page) → is_lt (page_order a b) ≡ page_below a b
page_lt_is a b = rw (lt_then (nat_cmp a.creator b.creator) (nat_cmp a.number b.number), nat_lt_is a.creator b.creator, nat_eq_is a.creator b.creator, nat_lt_is a.number b.number) refl

page_eq_is : (a b : Page) → is_eq (page_order a b) ≡ same_page a b
page_eq_is a b = rw (eq_then (nat_cmp a.creator b.creator) (nat_cmp a.number b.number), nat_eq_is a.creator b.creator, nat_eq_is a.number b.number) refl

stream_lt_is : (a b : Stream) → is_lt (stream_order a b) ≡ stream_below a b
stream_lt_is a b = rw (lt_then (nat_cmp a.source b.source) (page_order a.page b.page), nat_lt_is a.source b.source, nat_eq_is a.source b.source, page_lt_is a.page b.page) refl

stream_eq_is : (a b : Stream) → is_eq (stream_order a b) ≡ same_stream a b
stream_eq_is a b = rw (eq_then (nat_cmp a.source b.source) (page_order a.page b.page), nat_eq_is a.source b.source, page_eq_is a.page b.page) refl

pub name_lt_is : (a b : FullName) → is_lt (name_order a b) ≡ name_below a b
name_lt_is a b = rw (lt_then (stream_order a.stream b.stream) (nat_cmp a.number b.number), stream_lt_is a.stream b.stream, stream_eq_is a.stream b.stream, nat_lt_is a.number b.number) refl

-- ---- sorted lists

module _ {X : Type 0} (lt : X → X → Bool) (ranks : IsStrictWeakOrder lt) where
  at_both : (u v y z : X) → u ≡ y → v ≡ z → lt y z ≡ false → lt u v ≡ false
  at_both u v y z e f h = ap (λ w. lt w v) e ∙ ap (lt y) f ∙ h

  -- a new element between those before it and those that aren't
  pub insert_sorted : (xs : List X) (i : ℕ) (y : X) → ((a b : X) → lt a b ≡ true → lt b a ≡ false) → i ≤ length xs → IsSortedBy lt xs
      → AllWithin (λ x. lt x y ≡ true) xs 0 i → AllWithin (λ x. lt x y ≡ false) xs i (length xs) → IsSortedBy lt (insert xs i y)
  insert_sorted xs i y turned le sorted before after k d low high = elim (cases_order (k + 1) i) [
    | inl at ↦ (let lt : k < i = omega arith in
        at_both _ _ y (get_or xs k d) (ap (λ j. get_or (insert xs i y) j d) at ∙ get_or-insert_at xs i y d le) (get_or-insert_below xs i y d k lt le) (turned _ _ (before k d (omega arith) lt)))
    | inr (inl below) ↦ (let one : k < i = omega arith in
        at_both _ _ (get_or xs (k + 1) d) (get_or xs k d) (get_or-insert_below xs i y d (k + 1) below le) (get_or-insert_below xs i y d k one le) (sorted k d low (omega arith)))
    | inr (inr above) ↦ later k (cases_order k i) above high
  ]
    where
      long : length (insert xs i y) ≡ length xs + 1
      long = length-insert xs i y le

      later : (k : ℕ) → (k ≡ i) ⊎ ((k < i) ⊎ (i < k)) → i < k + 1 → k + 1 < length (insert xs i y) → lt (get_or (insert xs i y) (k + 1) d) (get_or (insert xs i y) k d) ≡ false
      later k (inl at) above high =
          at_both _ _ (get_or xs k d) y (get_or-insert_above xs i y d k (omega arith) le) (ap (λ j. get_or (insert xs i y) j d) at ∙ get_or-insert_at xs i y d le) (after k d (omega arith) (omega (arith, long)))
      later k (inr (inl below)) above high = absurd (omega arith)
      later (suc j) (inr (inr over)) above high =
          at_both _ _ (get_or xs (j + 1) d) (get_or xs j d) (get_or-insert_above xs i y d (suc j) (omega arith) le ∙ ap (λ m. get_or xs m d) (sym (add-one j)))
          (ap (λ m. get_or (insert xs i y) m d) (sym (add-one j)) ∙ get_or-insert_above xs i y d j (omega arith) le) (sorted j d (omega arith) (omega (arith, long)))
      later zero (inr (inr over)) above high = absurd (omega arith)

  -- one element less
  pub remove_sorted : (xs : List X) (i : ℕ) → i < length xs → IsSortedBy lt xs → IsSortedBy lt (remove xs i)
  remove_sorted xs i within sorted k d low high = elim (cases_order (k + 1) i) [
    | inl at ↦ (let one : k < i = omega arith in
        at_both _ _ (get_or xs (k + 1 + 1) d) (get_or xs k d) (get_or-remove_above xs i d (k + 1) (omega arith) within) (get_or-remove_below xs i d k one within) (sorted_far lt ranks xs sorted k (k + 1 + 1) d (omega arith) (omega (arith, long))))
    | inr (inl below) ↦ (let one : k < i = omega arith in
        at_both _ _ (get_or xs (k + 1) d) (get_or xs k d) (get_or-remove_below xs i d (k + 1) below within) (get_or-remove_below xs i d k one within) (sorted k d low (omega (arith, long))))
    | inr (inr above) ↦
        at_both _ _ (get_or xs (k + 1 + 1) d) (get_or xs (k + 1) d) (get_or-remove_above xs i d (k + 1) (omega arith) within) (get_or-remove_above xs i d k (omega arith) within) (sorted (k + 1) d (omega arith) (omega (arith, long)))
  ]
    where
      long : length (remove xs i) + 1 ≡ length xs
      long = length-remove xs i within

-- ---- what searches find in a list in order

abbrev pub IsInOrder : List Timed → Type 0
IsInOrder xs = IsSorted timed_order xs

abbrev pub precedes : Timed → Timed → Bool
precedes t x = is_lt (timed_order x t)

index_first : (o p : Ordering) → ordering_index o ≤ ordering_index p → is_lt p ≡ true → is_lt o ≡ true
index_first Less p le e = refl
index_first Equal Less le e = absurd (omega arith)
index_first Equal Equal le e = e
index_first Equal Greater le e = absurd (let k : false ≡ true = e in cc)
index_first Greater Less le e = absurd (omega arith)
index_first Greater Equal le e = absurd (let k : false ≡ true = e in cc)
index_first Greater Greater le e = absurd (let k : false ≡ true = e in cc)

pub parted : (xs : List Timed) (t : Timed) → IsInOrder xs → IsPartitionedBy (precedes t) xs
parted xs t sorted i j d le lt e = index_first (timed_order (get_or xs i d) t) (timed_order (get_or xs j d) t) (searchable_from_sorted timed_total (λ (x : Timed). x) xs t sorted i j d le lt) e

turned : (a b : Timed) → is_lt (timed_order a b) ≡ true → is_lt (timed_order b a) ≡ false
turned a b e = ap is_lt (timed_total.antisymm b a) ∙ go (timed_order a b) e
  where
    go : (o : Ordering) → is_lt o ≡ true → is_lt (ordering_reverse o) ≡ false
    go Less e = refl
    go Equal e = absurd (let k : false ≡ true = e in cc)
    go Greater e = absurd (let k : false ≡ true = e in cc)

pub put_in_order : (xs : List Timed) (i : ℕ) (t : Timed) → i ≤ length xs → IsInOrder xs → IsPartitionPoint (λ x. precedes t x ≡ true) (λ x. precedes t x ≡ false) xs i → IsInOrder (insert xs i t)
put_in_order xs i t le sorted parts = insert_sorted (λ (a b : Timed). is_lt (timed_order a b)) timed_ranks xs i t turned le sorted parts.0 parts.1

pub taken_in_order : (xs : List Timed) (i : ℕ) → i < length xs → IsInOrder xs → IsInOrder (remove xs i)
taken_in_order xs i within sorted = remove_sorted (λ (a b : Timed). is_lt (timed_order a b)) timed_ranks xs i within sorted

pub filtered_in_order : (p : Timed → Bool) (xs : List Timed) → IsInOrder xs → IsInOrder (filter p xs)
filtered_in_order p xs sorted = IsSortedBy-filter (λ (a b : Timed). is_lt (timed_order a b)) timed_ranks p xs sorted

-- a search for what is there finds it
pub found_there : (xs : List Timed) (t : Timed) (i : ℕ) → Has t xs → IsInOrder xs → IsBinarySearchResult (λ x. timed_order x t) xs (Err i) → ⊥
found_there xs t i there sorted found =
    let (k, lt, at) = Has-Contains t xs there in
    let parts = found (searchable_from_sorted timed_total (λ (x : Timed). x) xs t sorted) in
    let same : timed_order (get_or xs k t) t ≡ Equal = ap (λ x. timed_order x t) at ∙ tied_itself timed_total t in
    elim (cases_lt k i) [
      | inl before ↦ (let less : timed_order (get_or xs k t) t ≡ Less = parts.0 k t (omega arith) before in cc)
      | inr after ↦ (let more : timed_order (get_or xs k t) t ≡ Greater = parts.1 k t after lt in cc)
    ]

-- the moments rise
moment_first : (a b : Timed) → is_lt (timed_order b a) ≡ false → a.moment ≤ b.moment
moment_first a b e = elim (cases_lt b.moment a.moment) [
  | inl less ↦ absurd (let k : true ≡ false = sym (ap is_lt (ap (λ o. ordering_then o (name_order b.name a.name)) (nat_less b.moment a.moment less))) ∙ e in cc)
  | inr le ↦ le
]
  where
    nat_less : (x y : ℕ) → x < y → nat_cmp x y ≡ Less
    nat_less x y l = ap (λ c. cond c Less (cond (x == y) Equal Greater)) (lt-ltb x y l)

pub moments_rise : (xs : List Timed) → IsInOrder xs → IsNonDecreasingBy (λ (t : Timed). t.moment) xs
moments_rise xs sorted i j d le lt = moment_first (get_or xs i d) (get_or xs j d) (sorted_far (λ (a b : Timed). is_lt (timed_order a b)) timed_ranks xs sorted i j d le lt)
