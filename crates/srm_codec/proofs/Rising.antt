-- A list ascends where each value and the next one pass.
use Rattle.std.proofs.Common.{◌≡◌, ℕ, zero, suc, ◌+◌, ◌<◌, Bool, true, false, ◌&&◌, List, [], ◌∷◌, length, get_or, refl, sym, ap, subst, ◌∙◌, arith}
use Rattle.std.specs.List.{IsAllAdjacentAnswer, AllAdjacentBelow}
use Rattle.std.proofs.Math.Bool.{and-false}
use Rattle.srm_names.specs.Names.{ascending}

all_adjacent : {X : Type 0} (below : X → X → Bool) (xs : List X) → AllAdjacentBelow (λ x y. true ≡ below x y) xs (length xs) → ascending below xs ≡ true
all_adjacent below [] all = refl
all_adjacent below (x ∷ []) all = refl
all_adjacent below (x ∷ y ∷ xs) all =
    let here : below x y ≡ true = sym (all 0 x (omega arith)) in
    let after : AllAdjacentBelow (λ a b. true ≡ below a b) (y ∷ xs) (length (y ∷ xs)) = λ k d lt. (let e : suc k + 1 ≡ suc (k + 1) = omega arith in
    subst (λ j. true ≡ below (get_or (y ∷ xs) k d) (get_or (x ∷ y ∷ xs) j d)) e (all (suc k) d (omega arith))) in
    rw (here, all_adjacent below (y ∷ xs) after) refl

some_adjacent : {X : Type 0} (below : X → X → Bool) (xs : List X) (k : ℕ) → k + 1 < length xs → ((d : X) → false ≡ below (get_or xs k d) (get_or xs (k + 1) d)) → ascending below xs ≡ false
some_adjacent below [] k lt fails = absurd (omega arith)
some_adjacent below (x ∷ []) k lt fails = absurd (omega arith)
some_adjacent below (x ∷ y ∷ xs) zero lt fails = rw (← fails x) refl
some_adjacent below (x ∷ y ∷ xs) (suc k) lt fails =
    let e : suc k + 1 ≡ suc (k + 1) = omega arith in
    let later = some_adjacent below (y ∷ xs) k (omega arith) (λ d. subst (λ j. false ≡ below (get_or (y ∷ xs) k d) (get_or (x ∷ y ∷ xs) j d)) e (fails d)) in
    ap (λ b. below x y && b) later ∙ and-false (below x y)

pub ascending_answer : {X : Type 0} (below : X → X → Bool) (xs : List X) (answer : Bool) → IsAllAdjacentAnswer (λ x y b. b ≡ below x y) xs answer → answer ≡ ascending below xs
ascending_answer below xs true all = sym (all_adjacent below xs all)
ascending_answer below xs false (k, lt, fails) = sym (some_adjacent below xs k lt fails)
