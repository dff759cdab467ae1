-- What an output that had 7 got of the text 1 2 3.
use Rattle.std.proofs.Common.{◌≡◌, ℕ, List, [], ◌∷◌, ◌++◌, Some, get_or, refl, sym, subst, ap, arith}
use Rattle.srm_output.specs.Writing.{AppendsAllBut, AppendsFront}

-- it refused the 3
all_but_3 : AppendsAllBut (Some (7 ∷ [])) (Some (7 ∷ 1 ∷ 2 ∷ [])) (1 ∷ 2 ∷ 3 ∷ []) (3 ∷ [])
all_but_3 = record { front = 1 ∷ 2 ∷ []; parts = refl; output = refl }

a_front : AppendsFront (Some (7 ∷ [])) (Some (7 ∷ 1 ∷ 2 ∷ [])) (1 ∷ 2 ∷ 3 ∷ [])
a_front = record { behind = 3 ∷ []; most = all_but_3 }

-- it refused all, or nothing
none : AppendsFront (Some (7 ∷ [])) (Some (7 ∷ [])) (1 ∷ 2 ∷ 3 ∷ [])
none = record { behind = 1 ∷ 2 ∷ 3 ∷ []; most = record { front = []; parts = refl; output = refl } }

all : AppendsFront (Some (7 ∷ [])) (Some (7 ∷ 1 ∷ 2 ∷ 3 ∷ [])) (1 ∷ 2 ∷ 3 ∷ [])
all = record { behind = []; most = record { front = 1 ∷ 2 ∷ 3 ∷ []; parts = refl; output = refl } }

-- it can't have got the 2 before the 1
not_another : AppendsFront (Some []) (Some (2 ∷ [])) (1 ∷ 2 ∷ 3 ∷ []) → ⊥
not_another x =
    let text : (2 ∷ []) ++ x.behind ≡ 1 ∷ 2 ∷ 3 ∷ [] = subst (λ (front : List ℕ). front ++ x.behind ≡ 1 ∷ 2 ∷ 3 ∷ []) (sym x.most.output) x.most.parts in
    let first : 2 ≡ 1 = ap (λ (bytes : List ℕ). get_or bytes 0 0) text in
    absurd (omega (arith, first))
