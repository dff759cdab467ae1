-- What stands in an agenda of each name, as it is put in and taken out.
use Rattle.std.proofs.Common.{◌≡◌, ℕ, suc, ◌+◌, ◌<◌, ◌≤◌, Bool, true, false, not, cond, ◌||◌, List, [], ◌∷◌, ◌++◌, length, take, drop, get_or, refl, sym, ap, subst, ◌∙◌, arith, inl, inr, add-one}
use Rattle.std.specs.Prelude.{filter, find, is_some, Option, Some, None, if◌then◌else◌, Result, Ok, Err, OnErr, is_ok}
use Rattle.std.specs.List.{insert, remove}
use Rattle.std.specs.List.Sorted.{IsPermutation}
use Rattle.std.proofs.lemmas.List.{take-append-drop, append-nil, at_drop_more, nil_from_length}
use Rattle.std.proofs.lemmas.List.Elements.{filter-append}
use Rattle.std.proofs.lemmas.List.Filters.{length-filter_both}
use Rattle.std.proofs.lemmas.List.Sorted.{Contains-permutation, sum_by-IsPermutation}
use Rattle.std.proofs.lemmas.List.Sums.{length-filter}
use Rattle.srm_names.specs.FullName.{FullName}
use Rattle.srm_names.specs.Names.{same_name, name_below, ascending, among}
use Rattle.std.proofs.lemmas.Bool.{false_from_ne_true}
use Rattle.srm_names.proofs.Lists.{Has, Has-passes, Has-kept, Has-contained, Has-Contains}
use Rattle.srm_names.proofs.Same.{same_name-is, same_name-itself}
use Rattle.srm_names.proofs.Rising.{ascending_tail}
use Rattle.srm_names.proofs.Orders.{stands_once}
use Rattle.srm_deadlines.specs.declared.by_name.NamedValue.{NamedValue}
use Rattle.srm_deadlines.specs.declared.timed.Timed.{Timed}
use Rattle.srm_deadlines.specs.Places.{is_timed, names_of, has_place}
use Rattle.srm_deadlines.specs.Agenda.{of_name, timed_or, timed_among}
use Rattle.srm_deadlines.proofs.Same.{same_flip}

-- ---- lists of two parts

no_front : {X : Type 0} (xs ys : List X) → xs ++ ys ≡ [] → xs ≡ []
no_front [] ys e = refl
no_front (x ∷ xs) ys e = absurd (cc)

no_back : {X : Type 0} (xs ys : List X) → xs ++ ys ≡ [] → ys ≡ []
no_back [] ys e = e
no_back (x ∷ xs) ys e = absurd (cc)

-- of the one element of a list nothing is left
nothing_left : {X : Type 0} (xs ys : List X) (x y : X) → xs ++ x ∷ ys ≡ y ∷ [] → xs ++ ys ≡ []
nothing_left [] [] x y e = refl
nothing_left [] (z ∷ ys) x y e = absurd (cc)
nothing_left (z ∷ []) ys x y e = absurd (cc)
nothing_left (z ∷ w ∷ xs) ys x y e = absurd (cc)

parts_of : (n : FullName) (xs : List Timed) (i : ℕ) → of_name n (take i xs) ++ of_name n (drop i xs) ≡ of_name n xs
parts_of n xs i = sym (filter-append (is_timed n) (take i xs) (drop i xs)) ∙ ap (of_name n) (take-append-drop i xs)

-- ---- one is put in

pub inserted : (xs : List Timed) (i : ℕ) (t : Timed) → of_name t.name xs ≡ [] → (n : FullName) → of_name n (insert xs i t) ≡ (if same_name n t.name then t ∷ [] else of_name n xs)
inserted xs i t absent n = filter-append (is_timed n) (take i xs) (t ∷ drop i xs) ∙ go (same_name n t.name) refl
  where
    go : (b : Bool) → same_name n t.name ≡ b → of_name n (take i xs) ++ cond b (t ∷ of_name n (drop i xs)) (of_name n (drop i xs)) ≡ (if b then t ∷ [] else of_name n xs)
    go false e = parts_of n xs i
    go true e =
        let none : of_name n (take i xs) ++ of_name n (drop i xs) ≡ [] = parts_of n xs i ∙ ap (λ m. of_name m xs) (same_name-is n t.name e) ∙ absent in
        ap (λ ys. ys ++ t ∷ of_name n (drop i xs)) (no_front _ _ none) ∙ ap (λ ys. t ∷ ys) (no_back (of_name n (take i xs)) _ none)

-- ---- one is taken out

pub removed : (xs : List Timed) (i : ℕ) (t : Timed) → i < length xs → get_or xs i t ≡ t → of_name t.name xs ≡ t ∷ [] → (n : FullName) → of_name n (remove xs i) ≡ (if same_name n t.name then [] else of_name n xs)
removed xs i t within is there n = filter-append (is_timed n) (take i xs) (drop (suc i) xs) ∙ go (same_name n t.name) refl
  where
    split : (n : FullName) → of_name n (take i xs) ++ cond (same_name n t.name) (t ∷ of_name n (drop (suc i) xs)) (of_name n (drop (suc i) xs)) ≡ of_name n xs
    split n =
        ap (λ (x : Timed). of_name n (take i xs) ++ of_name n (x ∷ drop (suc i) xs)) (sym is)
        ∙ ap (λ ys. of_name n (take i xs) ++ ys) (ap (λ k. of_name n (get_or xs i t ∷ drop k xs)) (sym (add-one i)) ∙ sym (at_drop_more (of_name n) xs i t within))
        ∙ parts_of n xs i

    go : (b : Bool) → same_name n t.name ≡ b → of_name n (take i xs) ++ of_name n (drop (suc i) xs) ≡ (if b then [] else of_name n xs)
    go false e = ap (λ b. of_name n (take i xs) ++ cond b (t ∷ of_name n (drop (suc i) xs)) (of_name n (drop (suc i) xs))) (sym e) ∙ split n
    go true e = nothing_left (of_name n (take i xs)) (of_name n (drop (suc i) xs)) t t
        (ap (λ b. of_name n (take i xs) ++ cond b (t ∷ of_name n (drop (suc i) xs)) (of_name n (drop (suc i) xs))) (sym e) ∙ split n ∙ ap (λ m. of_name m xs) (same_name-is n t.name e) ∙ there)

-- ---- some names are taken out

pub filtered : (f : FullName → Bool) (xs : List Timed) (n : FullName) → of_name n (filter (λ t. f t.name) xs) ≡ (if f n then of_name n xs else [])
filtered f [] n = go (f n)
  where
    go : (b : Bool) → [] ≡ (if b then of_name n [] else [])
    go true = refl
    go false = refl
filtered f (x ∷ xs) n = go (f x.name) refl (same_name n x.name) refl (filtered f xs n)
  where
    go : (a : Bool) → f x.name ≡ a → (b : Bool) → same_name n x.name ≡ b → of_name n (filter (λ t. f t.name) xs) ≡ (if f n then of_name n xs else [])
        → of_name n (cond a (x ∷ filter (λ t. f t.name) xs) (filter (λ t. f t.name) xs)) ≡ (if f n then cond b (x ∷ of_name n xs) (of_name n xs) else [])
    go true e true g h =
        let yes_ : f n ≡ true = ap f (same_name-is n x.name g) ∙ e in
        ap (λ b. cond b (x ∷ of_name n (filter (λ t. f t.name) xs)) (of_name n (filter (λ t. f t.name) xs))) g
        ∙ ap (λ ys. x ∷ ys) (h ∙ ap (λ b. if b then of_name n xs else []) yes_) ∙ ap (λ b. if b then x ∷ of_name n xs else []) (sym yes_)
    go true e false g h = ap (λ b. cond b (x ∷ of_name n (filter (λ t. f t.name) xs)) (of_name n (filter (λ t. f t.name) xs))) g ∙ h
    go false e true g h =
        let no_ : f n ≡ false = ap f (same_name-is n x.name g) ∙ e in
        h ∙ ap (λ b. if b then of_name n xs else []) no_ ∙ ap (λ b. if b then x ∷ of_name n xs else []) (sym no_)
    go false e false g h = h

-- ---- many are put in

pub absent_found : (moments : List Timed) (n : FullName) → among (names_of moments) n ≡ is_some (find (is_timed n) moments)
absent_found [] n = refl
absent_found (x ∷ xs) n = go (same_name n x.name) (absent_found xs n)
  where
    go : (b : Bool) → among (names_of xs) n ≡ is_some (find (is_timed n) xs) → (b || among (names_of xs) n) ≡ is_some (cond b (Some x) (find (is_timed n) xs))
    go true h = refl
    go false h = h

pub none_among : (moments : List Timed) (n : FullName) → among (names_of moments) n ≡ false → of_name n moments ≡ []
none_among [] n e = refl
none_among (x ∷ xs) n e = go (same_name n x.name) e (none_among xs n)
  where
    go : (b : Bool) → (b || among (names_of xs) n) ≡ false → (among (names_of xs) n ≡ false → of_name n xs ≡ []) → cond b (x ∷ of_name n xs) (of_name n xs) ≡ []
    go true e h = absurd (let k : true ≡ false = e in cc)
    go false e h = h e

-- in a list in order of name each name stands once
pub rising_once : (moments : List Timed) → ascending name_below (names_of moments) ≡ true → (n : FullName) → of_name n moments ≡ timed_or (find (is_timed n) moments) []
rising_once [] asc n = refl
rising_once (x ∷ xs) asc n = go (same_name n x.name) refl (rising_once xs (ascending_tail name_below x.name (names_of xs) asc) n)
  where
    go : (b : Bool) → same_name n x.name ≡ b → of_name n xs ≡ timed_or (find (is_timed n) xs) [] → cond b (x ∷ of_name n xs) (of_name n xs) ≡ timed_or (cond b (Some x) (find (is_timed n) xs)) []
    go true e h = ap (λ ys. x ∷ ys) (none_among xs n (false_from_ne_true _ (λ k. stands_once x.name (names_of xs) asc (ap (among (names_of xs)) (sym (same_name-is n x.name e)) ∙ k))))
    go false e h = h

-- a list of one or none is the same in another order
single : {X : Type 0} (x : X) (xs : List X) → length xs ≡ 1 → Has x xs → xs ≡ x ∷ []
single x [] l h = absurd h
single x (z ∷ []) l (inl e) = ap (λ y. y ∷ []) (sym e)
single x (z ∷ []) l (inr h) = absurd h
single x (z ∷ w ∷ zs) l h = absurd (omega arith)

pub same_count : {X : Type 0} (p : X → Bool) (xs ys : List X) → IsPermutation xs ys → length (filter p ys) ≡ length (filter p xs)
same_count p xs ys moved = length-filter p ys ∙ sum_by-IsPermutation (λ x. cond (p x) 1 0) xs ys moved ∙ sym (length-filter p xs)

one_in_order : {X : Type 0} (p : X → Bool) (xs ys : List X) (x : X) → IsPermutation xs ys → filter p xs ≡ x ∷ [] → filter p ys ≡ x ∷ []
one_in_order p xs ys x moved e =
    let here = Has-passes p x xs (subst (Has x) (sym e) (inl refl)) in
    let there : Has x (filter p ys) = Has-kept p x ys here.1 (Has-contained x ys (Contains-permutation xs ys x moved (Has-Contains x xs here.0))) in
    single x (filter p ys) (same_count p xs ys moved ∙ ap length e) there

pub same_in_order : {X : Type 0} (p : X → Bool) (xs ys : List X) → IsPermutation xs ys → length (filter p xs) ≤ 1 → filter p ys ≡ filter p xs
same_in_order {X = X} p xs ys moved short = go (filter p xs) refl short
  where
    go : (zs : List X) → filter p xs ≡ zs → length zs ≤ 1 → filter p ys ≡ zs
    go [] e l = nil_from_length (filter p ys) (same_count p xs ys moved ∙ ap length e)
    go (z ∷ []) e l = one_in_order p xs ys z moved e
    go (z ∷ w ∷ zs) e l = absurd (omega arith)

pub short_of : (o : Option Timed) (before : List Timed) → length before ≤ 1 → length (timed_or o before) ≤ 1
short_of None before l = l
short_of (Some t) before l = omega arith

pub appended : (pairs moments : List Timed) → ascending name_below (names_of moments) ≡ true → ((n : FullName) → among (names_of moments) n ≡ true → of_name n pairs ≡ [])
    → (n : FullName) → of_name n (pairs ++ moments) ≡ timed_among moments n (of_name n pairs)
appended pairs moments asc absent n =
    filter-append (is_timed n) pairs moments ∙ ap (λ ys. of_name n pairs ++ ys) (rising_once moments asc n) ∙ go (find (is_timed n) moments) refl
  where
    go : (o : Option Timed) → find (is_timed n) moments ≡ o → of_name n pairs ++ timed_or o [] ≡ timed_or o (of_name n pairs)
    go None e = append-nil (of_name n pairs)
    go (Some t) e = ap (λ ys. ys ++ t ∷ []) (absent n (absent_found moments n ∙ ap is_some e))

pub extended : (pairs moments all : List Timed) → ascending name_below (names_of moments) ≡ true → ((n : FullName) → length (of_name n pairs) ≤ 1)
    → ((n : FullName) → among (names_of moments) n ≡ true → of_name n pairs ≡ []) → IsPermutation (pairs ++ moments) all → (n : FullName) → of_name n all ≡ timed_among moments n (of_name n pairs)
extended pairs moments all asc once absent moved n =
    same_in_order (is_timed n) (pairs ++ moments) all moved
    (subst (λ ys. length ys ≤ 1) (sym (appended pairs moments asc absent n)) (short_of (find (is_timed n) moments) (of_name n pairs) (once n)))
    ∙ appended pairs moments asc absent n

-- ---- there is room: each name that stands there once has a place

no_pairs : (pairs : List Timed) → ((n : FullName) → of_name n pairs ≡ []) → pairs ≡ []
no_pairs [] h = refl
no_pairs (t ∷ ts) h = absurd (let k : cond true (t ∷ of_name t.name ts) (of_name t.name ts) ≡ [] = ap (λ b. cond b (t ∷ of_name t.name ts) (of_name t.name ts)) (sym (same_name-itself t.name)) ∙ h t.name in cc)

short_if : (b : Bool) (xs : List Timed) → length xs ≤ 1 → length (if b then xs else []) ≤ 1
short_if true xs l = l
short_if false xs l = omega arith

none_if : (a b : Bool) (xs : List Timed) → (a ≡ true → b ≡ false) → (a ≡ false → xs ≡ []) → (if b then xs else []) ≡ []
none_if true b xs h k = ap (λ c. if c then xs else []) (h refl)
none_if false true xs h k = k refl
none_if false false xs h k = refl

pub there_is_room : (places : List (NamedValue ℕ)) (pairs : List Timed) → ((n : FullName) → length (of_name n pairs) ≤ 1) → ((n : FullName) → has_place places n ≡ false → of_name n pairs ≡ []) → length pairs ≤ length places
there_is_room [] pairs once outside = omega (arith, ap length (no_pairs pairs (λ n. outside n refl)))
there_is_room (p ∷ places) pairs once outside =
    let rest : List Timed = filter (λ t. not (same_name p.name t.name)) pairs in
    let more : length rest ≤ length places = there_is_room places rest
    (λ n. subst (λ ys. length ys ≤ 1) (sym (filtered (λ m. not (same_name p.name m)) pairs n)) (short_if (not (same_name p.name n)) (of_name n pairs) (once n)))
    (λ n without. filtered (λ m. not (same_name p.name m)) pairs n ∙ none_if (same_name n p.name) (not (same_name p.name n)) (of_name n pairs)
    (λ e. ap not (same_flip p.name n ∙ e)) (λ e. outside n (ap (λ b. b || has_place places n) e ∙ without))) in
    let both : length (of_name p.name pairs) + length rest ≡ length pairs = length-filter_both (is_timed p.name) (λ t. not (same_name p.name t.name)) (λ t. refl) pairs in
    let one = once p.name in
    omega arith

-- an insert or a push for which there is room
pub not_full : {X E A : Type 0} (r : Result X E) (new old put : A) (capacity len : ℕ) → new ≡ (if is_ok r then put else old) → OnErr r (capacity ≤ len) → len < capacity → new ≡ put
not_full (Ok x) new old put capacity len is full room = is
not_full (Err y) new old put capacity len is full room = absurd (omega (arith, full))

pub all_fit : {X E A : Type 0} (r : Result X E) (new old put : A) (capacity len : ℕ) → new ≡ (if is_ok r then put else old) → OnErr r (capacity < len) → len ≤ capacity → new ≡ put
all_fit (Ok x) new old put capacity len is full room = is
all_fit (Err y) new old put capacity len is full room = absurd (omega (arith, full))

pub if_not : {X : Type 0} (b : Bool) (xs : List X) → (if not b then xs else []) ≡ (if b then [] else xs)
if_not true xs = refl
if_not false xs = refl

pub has_of_name : (n : FullName) (t : Timed) (xs : List Timed) → of_name n xs ≡ t ∷ [] → Has t xs
has_of_name n t xs e = (Has-passes (is_timed n) t xs (subst (Has t) (sym e) (inl refl))).0
