-- The bucket law forbids what it is for: each history below has one call that goes wrong.
use Rattle.std.proofs.Common.{◌≡◌, ◌≤◌, ◌<◌, ℕ, List, [], ◌∷◌, ◌++◌, Some, None, lit<, lit≤, subst, arith}
use Rattle.srm_bucket.specs.declared.class.Class.TheVariants.{Shown, New}
use Rattle.srm_bucket.specs.declared.item.Item.{Item}
use Rattle.srm_bucket.specs.Calls.{Handed, Popped}
use Rattle.srm_bucket.specs.Law.{BucketLaw}
use Rattle.srm_bucket.specs.Examples.{item, entry}

-- what was not handed in
never_handed_in : BucketLaw 8000 1051 (Popped 0 (Some (entry New 1 28)) ∷ []) → ⊥
never_handed_in law =
    let rest : List (Item ℕ) = (law.0.in_order New).0 in
    let wrong : (item 1 28 ∷ []) ++ rest ≡ [] = (law.0.in_order New).1 in cc

-- the last one first
last_in_first_out : BucketLaw 8000 1051 (Handed (entry New 1 28) ∷ Handed (entry New 2 29) ∷ Popped 0 (Some (entry New 2 29)) ∷ []) → ⊥
last_in_first_out law =
    let rest : List (Item ℕ) = (law.1.1.0.in_order New).0 in
    let wrong : (item 2 29 ∷ []) ++ rest ≡ item 1 28 ∷ item 2 29 ∷ [] = (law.1.1.0.in_order New).1 in
    let same : item 2 29 ≡ item 1 28 = cc in
    let wrong_bytes : 29 ≤ 28 = subst (λ (i : Item ℕ). 29 ≤ i.length) same (lit≤ tt) in omega arith

-- a lower class while a higher one waits
lower_class_first : BucketLaw 8000 1051 (Handed (entry New 1 28) ∷ Handed (entry Shown 2 29) ∷ Popped 0 (Some (entry New 1 28)) ∷ []) → ⊥
lower_class_first law = let wrong : [] ≡ item 2 29 ∷ [] = law.1.1.0.highest_first Shown (lit< tt) in cc

-- more than the depth at once, and more than the rate gives in the time between
too_much_at_once : BucketLaw 8000 1051 (Handed (entry New 1 1051) ∷ Handed (entry New 2 1) ∷ Popped 5 (Some (entry New 1 1051)) ∷ Popped 5 (Some (entry New 2 1)) ∷ []) → ⊥
too_much_at_once law = let wrong : 1052000000 ≤ 1051000000 = law.1.1.1.0.not_too_much.1 in omega arith

too_soon : BucketLaw 8000 1051 (Handed (entry New 1 1051) ∷ Handed (entry New 2 1) ∷ Popped 5 (Some (entry New 1 1051)) ∷ Popped 129 (Some (entry New 2 1)) ∷ []) → ⊥
too_soon law = let wrong : 1052000000 ≤ 1051992000 = law.1.1.1.0.not_too_much.1 in omega arith

-- an item kept back for which there are tokens
kept_back : BucketLaw 8000 1051 (Handed (entry New 1 1051) ∷ Popped 5 None ∷ []) → ⊥
kept_back law = let wrong : 1051000000 < 1051000000 = law.1.0.all_that_may in omega arith
