-- What one more element at the end does to the words on histories.
use Rattle.std.proofs.Math.Bool.{or-false, or_assoc}
use Rattle.std.proofs.Common.{◌≡◌, ℕ, max, Bool, true, false, not, ◌||◌, List, [], ◌∷◌, ◌++◌, refl, ap, sym, ◌∙◌, subst, arith, append_assoc, zero, suc, ◌+◌, add-one}
use Rattle.std.specs.Prelude.{nat_lt, filter, if◌then◌else◌, Option, Some, None}
use Rattle.std.specs.List.{flat_map, list_any, list_all, AllByRecursion}
use Rattle.srm_names.specs.declared.page_msg.PageMsg.{PageMsg}
use Rattle.srm_names.specs.PageFeeds.{continues, is_page_feed}
use Rattle.std.proofs.lemmas.List.{append-nil}
use Rattle.std.proofs.lemmas.List.Elements.{filter-append}
use Rattle.std.proofs.lemmas.List.Folds.{list_all-append}
use Rattle.std.proofs.lemmas.Bool.Decides.{nat_tests}
use Rattle.std.proofs.lemmas.Grind.{flat_map-append}
use Rattle.srm_names.specs.Histories.{Step, steps_after, steps, or_else, first_of, last_of, since, greatest, better_first, first_best, firsts, count_up}

steps_after-snoc : {X : Type 0} (before xs : List X) (y : X) → steps_after before (xs ++ y ∷ []) ≡ steps_after before xs ++ record { before = before ++ xs; this = y } ∷ []
steps_after-snoc before [] y = ap (λ b. record { before = b; this = y } ∷ []) (sym (append-nil before))
steps_after-snoc before (x ∷ xs) y =
    ap (λ zs. record { before = before; this = x } ∷ zs)
    (steps_after-snoc (before ++ x ∷ []) xs y ∙ ap (λ b. steps_after (before ++ x ∷ []) xs ++ record { before = b; this = y } ∷ []) (append_assoc before (x ∷ []) xs))

pub steps-snoc : {X : Type 0} (xs : List X) (y : X) → steps (xs ++ y ∷ []) ≡ steps xs ++ record { before = xs; this = y } ∷ []
steps-snoc xs y = steps_after-snoc [] xs y

pub or_else-none : {Y : Type 0} (o : Option Y) → or_else o None ≡ o
or_else-none None = refl
or_else-none (Some y) = refl

or_else-assoc : {Y : Type 0} (a b c : Option Y) → or_else (or_else a b) c ≡ or_else a (or_else b c)
or_else-assoc None b c = refl
or_else-assoc (Some y) b c = refl

pub first_of-snoc : {X Y : Type 0} (f : X → Option Y) (xs : List X) (y : X) → first_of f (xs ++ y ∷ []) ≡ or_else (first_of f xs) (f y)
first_of-snoc f [] y = or_else-none (f y)
first_of-snoc f (x ∷ xs) y = ap (or_else (f x)) (first_of-snoc f xs y) ∙ sym (or_else-assoc (f x) (first_of f xs) (f y))

pub last_of-snoc : {X Y : Type 0} (f : X → Option Y) (xs : List X) (y : X) → last_of f (xs ++ y ∷ []) ≡ or_else (f y) (last_of f xs)
last_of-snoc f [] y = sym (or_else-none (f y))
last_of-snoc f (x ∷ xs) y = ap (λ o. or_else o (f x)) (last_of-snoc f xs y) ∙ or_else-assoc (f y) (last_of f xs) (f x)

pub last_of-append : {X Y : Type 0} (f : X → Option Y) (xs ys : List X) → last_of f (xs ++ ys) ≡ or_else (last_of f ys) (last_of f xs)
last_of-append f [] ys = sym (or_else-none (last_of f ys))
last_of-append f (x ∷ xs) ys = ap (λ o. or_else o (f x)) (last_of-append f xs ys) ∙ or_else-assoc (last_of f ys) (last_of f xs) (f x)

pub list_any-snoc : {X : Type 0} (p : X → Bool) (xs : List X) (y : X) → list_any p (xs ++ y ∷ []) ≡ list_any p xs || p y
list_any-snoc p [] y = or-false (p y)
list_any-snoc p (x ∷ xs) y = ap (λ b. p x || b) (list_any-snoc p xs y) ∙ sym (or_assoc (p x) (list_any p xs) (p y))

pub flat_map-snoc : {X Y : Type 0} (f : X → List Y) (xs : List X) (y : X) → flat_map f (xs ++ y ∷ []) ≡ flat_map f xs ++ f y
flat_map-snoc f xs y = flat_map-append f xs (y ∷ []) ∙ ap (λ zs. flat_map f xs ++ zs) (append-nil (f y))

pub since-snoc : {X : Type 0} (p : X → Bool) (xs : List X) (y : X) → since p (xs ++ y ∷ []) ≡ (if p y then [] else since p xs ++ y ∷ [])
since-snoc p [] y = refl
since-snoc p (x ∷ xs) y = rw (list_any-snoc p xs y, since-snoc p xs y) (go x xs y (p x) (p y) (list_any p xs) (since p xs))
  where
    go : {X : Type 0} (x : X) (xs : List X) (y : X) (px py any : Bool) (rest : List X)
        → (if any || py then (if py then [] else rest ++ y ∷ []) else if px then xs ++ y ∷ [] else x ∷ (xs ++ y ∷ []))
        ≡ (if py then [] else (if any then rest else if px then xs else x ∷ xs) ++ y ∷ [])
    go x xs y px py true rest = refl
    go x xs y px true false rest = refl
    go x xs y true false false rest = refl
    go x xs y false false false rest = refl

pub greatest-snoc : (ns : List ℕ) (n : ℕ) → greatest (ns ++ n ∷ []) ≡ max (greatest ns) n
greatest-snoc [] n = omega arith
greatest-snoc (m ∷ ns) n = rw (greatest-snoc ns n) (omega arith)

-- the best so far and one more: the new one only where it is strictly better
abbrev pub later : {X : Type 0} → (X → ℕ) → Option X → X → X
later key None y = y
later key (Some b) y = if nat_lt (key b) (key y) then y else b

best_of_three : {X : Type 0} (key : X → ℕ) (x b y : X) → better_first key x (Some (later key (Some b) y)) ≡ later key (Some (better_first key x (Some b))) y
best_of_three key x b y = cases (nat_lt (key b) (key y)) refl (nat_lt (key x) (key b)) refl (nat_lt (key x) (key y)) refl
  where
    cases : (by : Bool) → nat_lt (key b) (key y) ≡ by → (xb : Bool) → nat_lt (key x) (key b) ≡ xb → (xy : Bool) → nat_lt (key x) (key y) ≡ xy → better_first key x (Some (later key (Some b) y)) ≡ later key (Some (better_first key x (Some b))) y
    cases true e true f true g = simp (e, f, g) refl
    cases true e true f false g = absurd (grind (arith, nat_tests))
    cases true e false f true g = simp (e, f, g) refl
    cases true e false f false g = simp (e, f, g) refl
    cases false e true f true g = simp (e, f, g) refl
    cases false e true f false g = simp (e, f, g) refl
    cases false e false f true g = absurd (grind (arith, nat_tests))
    cases false e false f false g = simp (e, f, g) refl

pub first_best-snoc : {X : Type 0} (key : X → ℕ) (xs : List X) (y : X) → first_best key (xs ++ y ∷ []) ≡ Some (later key (first_best key xs) y)
first_best-snoc key [] y = refl
first_best-snoc {X = X} key (x ∷ xs) y = ap (λ o. Some (better_first key x o)) (first_best-snoc key xs y) ∙ ap Some (go (first_best key xs))
  where
    go : (o : Option X) → better_first key x (Some (later key o y)) ≡ later key (Some (better_first key x o)) y
    go None = refl
    go (Some b) = best_of_three key x b y

pub firsts-snoc : {X : Type 0} (same : X → X → Bool) (xs : List X) (y : X) → firsts same (xs ++ y ∷ []) ≡ (if list_any (λ x. same x y) xs then firsts same xs else firsts same xs ++ y ∷ [])
firsts-snoc same [] y = refl
firsts-snoc same (x ∷ xs) y = ap (λ zs. x ∷ filter (λ z. not (same x z)) zs) (firsts-snoc same xs y) ∙ go (list_any (λ z. same z y) xs) (same x y) refl
  where
    go : (any here : Bool) → same x y ≡ here → x ∷ filter (λ z. not (same x z)) (if any then firsts same xs else firsts same xs ++ y ∷ []) ≡ (if here || any then x ∷ filter (λ z. not (same x z)) (firsts same xs) else (x ∷ filter (λ z. not (same x z)) (firsts same xs)) ++ y ∷ [])
    go true true e = refl
    go true false e = refl
    go false true e = ap (λ zs. x ∷ zs) (filter-append _ (firsts same xs) (y ∷ []) ∙ rw e (append-nil _))
    go false false e = ap (λ zs. x ∷ zs) (filter-append _ (firsts same xs) (y ∷ []) ∙ rw e refl)

-- What one more element keeps, where each is allowed by those before it, holds of the whole.
pub along : {X : Type 0} (R : Step X → Type 0) (P : List X → Type 0)
    → ((before : List X) (x : X) → P before → R (record { before = before; this = x }) → P (before ++ x ∷ []))
    → (before xs : List X) → P before → AllByRecursion R (steps_after before xs) → P (before ++ xs)
along R P step before [] p all = subst P (sym (append-nil before)) p
along R P step before (x ∷ xs) p all = subst P (append_assoc before (x ∷ []) xs) (along R P step (before ++ x ∷ []) xs (step before x p all.0) all.1)

-- a page feed goes on by a message that continues it
pub is_page_feed-snoc : (before : List PageMsg) (m : PageMsg) → is_page_feed before ≡ true → continues before m ≡ true → is_page_feed (before ++ m ∷ []) ≡ true
is_page_feed-snoc before m fed next = ap (list_all (λ (s : Step PageMsg). continues s.before s.this)) (steps-snoc before m) ∙ list_all-append _ (steps before) _ ∙ rw (fed, next) refl

-- What holds at each step of a whole history holds at each of its last part, over what came before.
pub steps_from : {X : Type 0} (R : Step X → Type 0) (before xs ys : List X) → AllByRecursion R (steps_after before (xs ++ ys)) → AllByRecursion R (steps_after (before ++ xs) ys)
steps_from R before [] ys all = subst (λ zs. AllByRecursion R (steps_after zs ys)) (sym (append-nil before)) all
steps_from R before (x ∷ xs) ys all = subst (λ zs. AllByRecursion R (steps_after zs ys)) (append_assoc before (x ∷ []) xs) (steps_from R (before ++ x ∷ []) xs ys all.1)

-- and at each of its first part
pub steps_front : {X : Type 0} (R : Step X → Type 0) (before xs ys : List X) → AllByRecursion R (steps_after before (xs ++ ys)) → AllByRecursion R (steps_after before xs)
steps_front R before [] ys all = tt
steps_front R before (x ∷ xs) ys all = (all.0, steps_front R (before ++ x ∷ []) xs ys all.1)

-- one number more
pub count_up-last : (from n : ℕ) → count_up from (suc n) ≡ count_up from n ++ (from + n) ∷ []
count_up-last from zero = ap (λ k. k ∷ []) (omega arith)
count_up-last from (suc n) = ap (λ ks. from ∷ ks) (count_up-last (from + 1) n ∙ ap (λ k. count_up (from + 1) n ++ k ∷ []) (omega arith))

pub count_up-more : (from n : ℕ) → count_up from (n + 1) ≡ count_up from n ++ (from + n) ∷ []
count_up-more from n = ap (count_up from) (add-one n) ∙ count_up-last from n

pub up_to_more : (n : ℕ) → count_up 0 (n + 1) ≡ count_up 0 n ++ n ∷ []
up_to_more n = count_up-more 0 n ∙ ap (λ k. count_up 0 n ++ k ∷ []) (omega arith)
