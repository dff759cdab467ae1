-- Names in order: prefixes and joins of lists that rise, and how many they are.
use Rattle.std.proofs.Common.{◌≡◌, ◌≤◌, Bool, true, false, ◌||◌, List, [], ◌∷◌, ◌++◌, length, refl, sym, ◌∙◌, subst, arith}
use Rattle.std.specs.List.{AllByRecursion}
use Rattle.srm_names.specs.FullName.{FullName}
use Rattle.srm_names.specs.Names.{same_name, name_below, ascending, among}
use Rattle.srm_names.proofs.Same.{same_name-is}
use Rattle.srm_names.proofs.Orders.{and_left, and_right, below_later, name_order}
use Rattle.srm_names.proofs.Rising.{first_among, ascending_tail}

-- names in order

later_among : (m x : FullName) (xs : List FullName) → among xs m ≡ true → among (x ∷ xs) m ≡ true
later_among m x xs e = go (same_name m x)
  where
    go : (b : Bool) → (b || among xs m) ≡ true
    go true = refl
    go false = e

pub front_below : (xs : List FullName) (y m : FullName) → ascending name_below (xs ++ y ∷ []) ≡ true → among xs m ≡ true → name_below m y ≡ true
front_below [] y m p at = absurd (cc)
front_below (x ∷ []) y m p at = go (same_name m x) refl at
  where
    go : (b : Bool) → same_name m x ≡ b → (b || false) ≡ true → name_below m y ≡ true
    go true e a = subst (λ k. name_below k y ≡ true) (sym (same_name-is m x e)) (and_left (name_below x y) true p)
    go false e a = absurd (cc)
front_below (x ∷ z ∷ xs) y m p at = go (same_name m x) refl at (λ a. front_below (z ∷ xs) y m rest a) (front_below (z ∷ xs) y z rest (first_among z xs))
  where
    rest : ascending name_below (z ∷ xs ++ y ∷ []) ≡ true
    rest = and_right (name_below x z) (ascending name_below (z ∷ xs ++ y ∷ [])) p

    go : (b : Bool) → same_name m x ≡ b → (b || among (z ∷ xs) m) ≡ true → (among (z ∷ xs) m ≡ true → name_below m y ≡ true) → name_below z y ≡ true → name_below m y ≡ true
    go true e a more step = subst (λ k. name_below k y ≡ true) (sym (same_name-is m x e)) (name_order.transitive x z y (and_left (name_below x z) (ascending name_below (z ∷ xs ++ y ∷ [])) p) step)
    go false e a more step = more a

pub last_is_new : (xs : List FullName) (y : FullName) → ascending name_below (xs ++ y ∷ []) ≡ true → among xs y ≡ false
last_is_new xs y p = go (among xs y) refl
  where
    go : (b : Bool) → among xs y ≡ b → b ≡ false
    go true e = sym (front_below xs y y p e) ∙ name_order.irreflexive y
    go false e = refl

pub among_all : (P : FullName → Type 0) (names : List FullName) (n : FullName) → AllByRecursion P names → among names n ≡ true → P n
among_all P [] n all at = absurd (cc)
among_all P (m ∷ names) n all at = go (same_name n m) refl at (among_all P names n all.1)
  where
    go : (b : Bool) → same_name n m ≡ b → (b || among names n) ≡ true → (among names n ≡ true → P n) → P n
    go true e a more = subst P (sym (same_name-is n m e)) all.0
    go false e a more = more a

-- names that rise, all among others that rise, are no more than these
pub names_no_more : (ys xs : List FullName) → ascending name_below ys ≡ true → ascending name_below xs ≡ true → ((n : FullName) → among xs n ≡ true → among ys n ≡ true) → length xs ≤ length ys
names_no_more [] [] p q h = omega arith
names_no_more [] (x ∷ xs) p q h = let wrong : among [] x ≡ true = h x (first_among x xs) in absurd (cc)
names_no_more (y ∷ ys) [] p q h = omega arith
names_no_more (y ∷ ys) (x ∷ xs) p q h =
    go (same_name x y) refl (names_no_more ys xs (ascending_tail name_below y ys p) (ascending_tail name_below x xs q)) (names_no_more ys (x ∷ xs) (ascending_tail name_below y ys p) q)
  where
    apart : (n : FullName) → among xs n ≡ true → same_name n x ≡ true → ⊥
    apart n at e =
        let below : name_below x n ≡ true = below_later x n xs q at in
        let itself : name_below x x ≡ true = subst (λ m. name_below x m ≡ true) (same_name-is n x e) below in
        let wrong : true ≡ false = sym itself ∙ name_order.irreflexive x in
        absurd (cc)

    rest_of : (n : FullName) (b : Bool) → same_name n y ≡ b → (b ≡ true → ⊥) → (b || among ys n) ≡ true → among ys n ≡ true
    rest_of n true e never at = absurd (never refl)
    rest_of n false e never at = at

    go : (b : Bool) → same_name x y ≡ b
        → (((n : FullName) → among xs n ≡ true → among ys n ≡ true) → length xs ≤ length ys)
        → (((n : FullName) → among (x ∷ xs) n ≡ true → among ys n ≡ true) → length (x ∷ xs) ≤ length ys) → length (x ∷ xs) ≤ length (y ∷ ys)
    go true e both one =
        let k : length xs ≤ length ys = both (λ n at. rest_of n (same_name n y) refl (λ s. apart n at (subst (λ m. same_name n m ≡ true) (sym (same_name-is x y e)) s)) (h n (later_among n x xs at))) in
        omega (arith, k)
    go false e both one =
        let later : among ys x ≡ true = rest_of x (same_name x y) refl (λ s. let wrong : true ≡ false = sym s ∙ e in absurd (cc)) (h x (first_among x xs)) in
        let below : name_below y x ≡ true = below_later y x ys p later in
        let k : length (x ∷ xs) ≤ length ys = one (λ n at. rest_of n (same_name n y) refl (λ s. behind n at (same_name-is n y s) below) (h n at)) in
        omega (arith, k)
      where
        behind : (n : FullName) → among (x ∷ xs) n ≡ true → n ≡ y → name_below y x ≡ true → ⊥
        behind n at is below = either (same_name n x) refl at
          where
            either : (b : Bool) → same_name n x ≡ b → (b || among xs n) ≡ true → ⊥
            either true s a =
                let itself : name_below y y ≡ true = subst (λ m. name_below y m ≡ true) (sym (same_name-is n x s) ∙ is) below in
                let wrong : true ≡ false = sym itself ∙ name_order.irreflexive y in
                absurd (cc)
            either false s a =
                let up : name_below x y ≡ true = subst (λ m. name_below x m ≡ true) is (below_later x n xs q a) in
                let itself : name_below y y ≡ true = name_order.transitive y x y below up in
                let wrong : true ≡ false = sym itself ∙ name_order.irreflexive y in
                absurd (cc)
