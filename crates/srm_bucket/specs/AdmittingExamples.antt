-- What is admitted, at worked examples.
use Rattle.std.specs.Prelude.{◌≡◌, ℕ, true, false, List, [], ◌∷◌, ◌++◌, map, Some, refl}
use Rattle.srm_bucket.specs.declared.class.Class.{Class}
use Rattle.srm_bucket.specs.declared.class.Class.TheVariants.{Shown, New, Other}
use Rattle.srm_bucket.specs.Calls.{BucketCall, Handed, Popped}
use Rattle.srm_bucket.specs.Classes.{queued}
use Rattle.srm_bucket.specs.Admitting.{ahead_of, cost_of_all, admits}
use Rattle.srm_bucket.specs.Examples.{full, four_gone, emptied}

none : List (BucketCall ℕ)
none = []

-- three full datagrams that wait, and one more: the full bucket pays for four
abbrev three : List (BucketCall ℕ)
three = Handed (full 1) ∷ Handed (full 2) ∷ Handed (full 3) ∷ []

fourth_too : admits 8000 4204 three New 1051 0 ≡ true
fourth_too = refl

not_the_fifth : admits 8000 4204 (three ++ Handed (full 4) ∷ []) New 1051 0 ≡ false
not_the_fifth = refl

-- after four have gone the fifth waits, and one more is admitted once both are paid for
behind_the_fifth : map (admits 8000 4204 four_gone New 1051) (7262749 ∷ 7262750 ∷ []) ≡ false ∷ true ∷ []
behind_the_fifth = refl

-- where nothing is ahead, the level doesn't matter
abbrev empty : List (BucketCall ℕ)
empty = Handed (full 0) ∷ Popped 0 (Some (full 0)) ∷ []

nothing_ahead : admits 8000 1051 empty New 1051 0 ≡ true
nothing_ahead = refl

-- of 17 bytes of the lowest class, 28 of new data and 29 of the highest, those of the class and of higher ones are ahead
costs : map (λ (class : Class). cost_of_all (ahead_of class (queued emptied))) (Shown ∷ New ∷ Other ∷ []) ≡ 29000000 ∷ 57000000 ∷ 74000000 ∷ []
costs = refl

by_class : map (λ (class : Class). admits 8000 1051 emptied class 28 10624) (Shown ∷ New ∷ Other ∷ []) ≡ true ∷ false ∷ false ∷ []
by_class = refl

at_last : map (admits 8000 1051 emptied New 28) (10624 ∷ 10625 ∷ []) ≡ false ∷ true ∷ []
at_last = refl

-- a full bucket of the least depth doesn't pay for a full datagram and one behind it
never : admits 8000 1051 (Handed (full 1) ∷ []) New 28 281474976710656 ≡ false
never = refl
