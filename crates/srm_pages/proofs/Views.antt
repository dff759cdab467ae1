-- What holds of a rule's views when one of them changes, or one more is added.
use Rattle.std.proofs.Common.{◌≡◌, ◌≢◌, ◌⊎◌, ℕ, zero, suc, List, [], ◌∷◌, ◌++◌, length, set, sym, refl, ap, subst, inl, inr, ⊎_elim}
use mathlib.Core.Option.{some, some-injective, some-ne-none}
use lib.ListN.{get_elem?}
use Rattle.atomic_table.proofs.Lists.{at_set}

abbrev pub All : {V : Type 0} → (ℕ → V → Type 0) → List V → Type 0
All {V} F views = (id : ℕ) (v : V) → get_elem? views id ≡ some v → F id v

pub all_set : {V : Type 0} (F : ℕ → V → Type 0) (views : List V) (id : ℕ) (w : V) → F id w → ((j : ℕ) (u : V) → j ≢ id → get_elem? views j ≡ some u → F j u) → All F (set views id w)
all_set {V} F views id w mine others j u e =
    ⊎_elim
    (λ (x : (j ≡ id) × (w ≡ u)). subst (λ (y : ℕ × V). F y.0 y.1) (λ i. (sym x.0 i, x.1 i)) mine)
    (λ (x : (j ≢ id) × (get_elem? views j ≡ some u)). others j u x.0 x.1)
    (at_set views id j w u e)

-- a view of a list with one more is one of the list, or the last
pub snoc_cases : {V : Type 0} (l : List V) (a b : V) (j : ℕ) → get_elem? (l ++ a ∷ []) j ≡ some b → (get_elem? l j ≡ some b) ⊎ ((j ≡ length l) × (a ≡ b))
snoc_cases [] a b zero e = inr (refl, some-injective a b e)
snoc_cases [] a b (suc j) e = absurd (some-ne-none b (sym e))
snoc_cases (x ∷ xs) a b zero e = inl e
snoc_cases (x ∷ xs) a b (suc j) e = ⊎_elim (λ t. inl t) (λ t. inr (ap suc t.0, t.1)) (snoc_cases xs a b j e)

-- of one view
pub all_one : {V : Type 0} (F : ℕ → V → Type 0) (w : V) → F 0 w → All F (w ∷ [])
all_one F w mine zero u e = subst (F 0) (some-injective w u e) mine
all_one F w mine (suc j) u e = absurd (some-ne-none u (sym e))
