-- Items that go, one after the other, and the class that each is of.
use Rattle.std.specs.Prelude.{◌≡◌, ℕ, true, ◌==◌, List, [], ◌∷◌, map, Some, refl}
use Rattle.srm_bucket.specs.declared.class.Class.{Class}
use Rattle.srm_bucket.specs.declared.class.Class.TheVariants.{Shown, New, Other}
use Rattle.srm_bucket.specs.Calls.{Classed, BucketCall, Popped}
use Rattle.srm_bucket.specs.Classes.{rank, in_class}

-- the pops in which these go
abbrev pub popping : {T : Type 0} → ℕ → List (Classed T) → List (BucketCall T)
popping now goes = map (λ c. Popped now (Some c)) goes

pub same_rank : (class : Class) → (rank class == rank class) ≡ true
same_rank Shown = refl
same_rank New = refl
same_rank Other = refl

pub in_its_own : {T : Type 0} (c : Classed T) → in_class c.class (Some c) ≡ c.item ∷ []
in_its_own c = rw (same_rank c.class) refl
