-- What members are called, in examples.
use Rattle.std.specs.Prelude.{◌≡◌, refl, codes, ℕ, List, [], ◌∷◌, map}
use Rattle.std.specs.Fmt.{digits}
use Rattle.srm_options.specs.MemberNames.{called, titled}

abbrev two : List (List ℕ)
two = codes "ada" ∷ codes "grace" ∷ []

names : map (called two) (0 ∷ 1 ∷ 12 ∷ []) ≡ codes "ada" ∷ codes "grace" ∷ codes "12" ∷ []
unfolding digits
names = refl

titles : map (titled two) (1 ∷ 12 ∷ []) ≡ codes "grace" ∷ codes "member 12" ∷ []
unfolding digits
titles = refl

numbers : map (called []) (0 ∷ 31 ∷ []) ≡ codes "0" ∷ codes "31" ∷ []
unfolding digits
numbers = refl
