-- What is made of a list's elements, one behind another.
use Rattle.std.proofs.Common.{◌≡◌, ℕ, ◌+◌, ◌<◌, List, [], ◌∷◌, ◌++◌, length, get_or, take, sym, ap, ◌∙◌, append_assoc}
use Rattle.std.proofs.lemmas.List.{take_more}
use Rattle.std.specs.List.{flat_map}
use Rattle.srm_names.proofs.Snoc.{flat_map-snoc}

-- the elements up to one, and this one
pub taken_more : {X : Type 0} (xs : List X) (at : ℕ) (x : X) → at < length xs → x ≡ get_or xs at x → take (at + 1) xs ≡ take at xs ++ x ∷ []
taken_more xs at x there is = take_more xs at x there ∙ ap (λ y. take at xs ++ y ∷ []) (sym is)

pub one_more : {X Y : Type 0} (f : X → List Y) (before : List Y) (xs : List X) (at : ℕ) (x : X) → at < length xs → x ≡ get_or xs at x
    → (before ++ flat_map f (take at xs)) ++ f x ≡ before ++ flat_map f (take (at + 1) xs)
one_more {X} {Y} f before xs at x there is =
    append_assoc before (flat_map f (take at xs)) (f x)
    ∙ ap (λ (ys : List Y). before ++ ys) (sym (flat_map-snoc f (take at xs) x) ∙ ap (flat_map f) (sym (taken_more xs at x there is)))

-- the same from nothing
pub one_more_of : {X Y : Type 0} (f : X → List Y) (xs : List X) (at : ℕ) (x : X) → at < length xs → x ≡ get_or xs at x
    → flat_map f (take at xs) ++ f x ≡ flat_map f (take (at + 1) xs)
one_more_of f xs at x there is = sym (flat_map-snoc f (take at xs) x) ∙ ap (flat_map f) (sym (taken_more xs at x there is))
