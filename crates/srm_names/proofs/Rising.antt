-- Lists that rise: their parts, and two that are joined.
use Rattle.std.proofs.Common.{◌≡◌, ℕ, zero, suc, take, drop, Bool, true, ◌||◌, List, [], ◌∷◌, ◌++◌, refl, ap}
use Rattle.std.proofs.lemmas.Bool.{and_parts, and_from, or_right}
use Rattle.srm_names.specs.FullName.{FullName}
use Rattle.srm_names.specs.Names.{same_name, name_below, ascending, among}
use Rattle.srm_names.proofs.Same.{same_name-itself}

pub ascending_tail : {X : Type 0} (below : X → X → Bool) (x : X) (xs : List X) → ascending below (x ∷ xs) ≡ true → ascending below xs ≡ true
ascending_tail below x [] rises = refl
ascending_tail below x (z ∷ xs) rises = (and_parts (below x z) (ascending below (z ∷ xs)) rises).1

pub ascending_drop : {X : Type 0} (below : X → X → Bool) (i : ℕ) (xs : List X) → ascending below xs ≡ true → ascending below (drop i xs) ≡ true
ascending_drop below zero xs rises = rises
ascending_drop below (suc i) [] rises = refl
ascending_drop below (suc i) (x ∷ xs) rises = ascending_drop below i xs (ascending_tail below x xs rises)

pub ascending_take : {X : Type 0} (below : X → X → Bool) (i : ℕ) (xs : List X) → ascending below xs ≡ true → ascending below (take i xs) ≡ true
ascending_take below zero xs rises = refl
ascending_take below (suc i) [] rises = refl
ascending_take below (suc zero) (x ∷ xs) rises = refl
ascending_take below (suc (suc i)) (x ∷ []) rises = refl
ascending_take below (suc (suc i)) (x ∷ z ∷ xs) rises =
    let parts = and_parts (below x z) (ascending below (z ∷ xs)) rises in
    rw parts.0 (ascending_take below (suc i) (z ∷ xs) parts.1)

pub first_among : (x : FullName) (xs : List FullName) → among (x ∷ xs) x ≡ true
first_among x xs = ap (λ b. b || among xs x) (same_name-itself x)

-- two lists that rise, where each name of one is below each of the other
pub ascending_joined : (xs ys : List FullName) → ascending name_below xs ≡ true → ascending name_below ys ≡ true → ((m n : FullName) → among xs m ≡ true → among ys n ≡ true → name_below m n ≡ true) → ascending name_below (xs ++ ys) ≡ true
ascending_joined [] ys a b below = b
ascending_joined (x ∷ []) [] a b below = refl
ascending_joined (x ∷ []) (y ∷ ys) a b below = and_from _ _ (below x y (first_among x []) (first_among y ys)) b
ascending_joined (x ∷ z ∷ xs) ys a b below =
    let parts = and_parts (name_below x z) (ascending name_below (z ∷ xs)) a in
    rw parts.0 (ascending_joined (z ∷ xs) ys parts.1 b (λ m n h k. below m n (or_right (same_name m x) (among (z ∷ xs) m) h) k))
