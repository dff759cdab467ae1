-- Words without an option.
use Rattle.std.proofs.Common.{◌≡◌, ℕ, true, List, [], ◌∷◌, ◌++◌, refl, sym, ap, subst, ◌∙◌, append_assoc, inl, inr}
use Rattle.std.specs.Prelude.{Option, Some, codes}
use Rattle.std.specs.Str.{bytes_eq}
use Rattle.std.proofs.lemmas.Slice.Eq.{bytes_eq-Decides}
use denote.Ref.{Bor}
use Rattle.srm_rooms.specs.RoomLines.{IsLine, TakesOut, value_now}

-- an option that stands behind other words stands in all
pub takes_on : (option : List ℕ) (words front rest : List (List ℕ)) (value : List ℕ) (others all : List (List ℕ))
    → front ++ rest ≡ words → TakesOut option rest (Some value) others → all ≡ front ++ others → TakesOut option words (Some value) all
takes_on option words front rest value others all is (before, taken, back, there, of, left) so =
    (front ++ before, taken, back, sym is ∙ ap (λ (ws : List (List ℕ)). front ++ ws) there ∙ sym (append_assoc front before (taken ++ back)), of, so ∙ ap (λ (ws : List (List ℕ)). front ++ ws) left ∙ sym (append_assoc front before back))

-- an option with its value behind it
pub takes_two : (option word value : List ℕ) (words back : List (List ℕ)) → bytes_eq word option ≡ true → words ≡ value ∷ back → TakesOut option (word ∷ words) (Some value) back
takes_two option word value words back same is =
    let first : word ≡ option = (bytes_eq-Decides word option).0 same in
    ([], option ∷ value ∷ [], back, ap (λ (w : List ℕ). w ∷ words) first ∙ ap (λ (ws : List (List ℕ)). option ∷ ws) is, inl refl, refl)

-- an option with its value in it
pub takes_one : (option word value : List ℕ) (words back : List (List ℕ)) → word ≡ option ++ 61 ∷ value → back ≡ words → TakesOut option (word ∷ words) (Some value) back
takes_one option word value words back is so = ([], (option ++ 61 ∷ value) ∷ [], words, ap (λ (w : List ℕ). w ∷ words) is, inr refl, so)

-- what stands before '=' is the option
pub cut : (option word name value : List ℕ) → bytes_eq name option ≡ true → word ≡ name ++ 61 ∷ value → word ≡ option ++ 61 ∷ value
cut option word name value same is = is ∙ ap (λ (n : List ℕ). n ++ 61 ∷ value) ((bytes_eq-Decides name option).0 same)

-- a line is what is left once the room and the member are taken out
pub is_line : (words : List (List ℕ)) (value : Option (Bor (List ℕ))) (file : Bor (List ℕ)) (rest : List (List ℕ)) (me : Option (List ℕ)) (own : List (List ℕ))
    → value ≡ Some file → TakesOut (codes "--room") words (value_now value) rest → TakesOut (codes "--me") rest me own → IsLine words file.now me own
is_line words value file rest me own is room so = (rest, subst (λ (v : Option (Bor (List ℕ))). TakesOut (codes "--room") words (value_now v) rest) is room, so)
