-- What is made of a list element by element, each with its place.
use Rattle.std.proofs.Common.{◌≡◌, ℕ, ◌+◌, ◌<◌, get_or, List, [], ◌∷◌, ◌++◌, length, take, ap, sym, ◌∙◌, arith}
use Rattle.std.specs.Prelude.{map}
use Rattle.std.specs.List.{flat_map, enumerate_from}
use Rattle.std.proofs.lemmas.List.{take_more, length-take-le, map-append}
use Rattle.srm_names.proofs.Snoc.{flat_map-snoc}
use Rattle.srm_picture.specs.ByEntry.{by_entry}

pub enumerate_from-append : {X : Type 0} (n : ℕ) (xs ys : List X) → enumerate_from n (xs ++ ys) ≡ enumerate_from n xs ++ enumerate_from (n + length xs) ys
enumerate_from-append n [] ys = ap (λ k. enumerate_from k ys) (omega arith)
enumerate_from-append n (x ∷ xs) ys = ap (λ zs. (n, x) ∷ zs) (enumerate_from-append (n + 1) xs ys ∙ ap (λ k. enumerate_from (n + 1) xs ++ enumerate_from k ys) (omega arith))

-- one element more
placed : {X : Type 0} (xs : List X) (i : ℕ) (x : X) → i < length xs → x ≡ get_or xs i x → enumerate_from 0 (take (i + 1) xs) ≡ enumerate_from 0 (take i xs) ++ (i, x) ∷ []
placed xs i x l at =
    ap (enumerate_from 0) (take_more xs i x l ∙ ap (λ y. take i xs ++ y ∷ []) (sym at)) ∙ enumerate_from-append 0 (take i xs) (x ∷ []) ∙ ap (λ k. enumerate_from 0 (take i xs) ++ (k, x) ∷ []) (place (length-take-le i xs (omega arith)))
  where
    place : length (take i xs) ≡ i → 0 + length (take i xs) ≡ i
    place e = omega (arith, e)

pub entry_more : {X Y : Type 0} (f : ℕ × X → List Y) (xs : List X) (i : ℕ) (x : X) (ys more : List Y) → i < length xs → x ≡ get_or xs i x → ys ≡ by_entry f (take i xs) → more ≡ f (i, x) → ys ++ more ≡ by_entry f (take (i + 1) xs)
entry_more f xs i x ys more l at so_far is =
    ap (λ zs. zs ++ more) so_far ∙ ap (λ zs. by_entry f (take i xs) ++ zs) is ∙ sym (ap (flat_map f) (placed xs i x l at) ∙ flat_map-snoc f (enumerate_from 0 (take i xs)) (i, x))

pub each_more : {X Y : Type 0} (f : ℕ × X → Y) (xs : List X) (i : ℕ) (x : X) (ys : List Y) (y : Y) → i < length xs → x ≡ get_or xs i x → ys ≡ map f (enumerate_from 0 (take i xs)) → y ≡ f (i, x) → ys ++ y ∷ [] ≡ map f (enumerate_from 0 (take (i + 1) xs))
each_more f xs i x ys y l at so_far is =
    ap (λ zs. zs ++ y ∷ []) so_far ∙ ap (λ z. map f (enumerate_from 0 (take i xs)) ++ z ∷ []) is ∙ sym (ap (map f) (placed xs i x l at) ∙ map-append f (enumerate_from 0 (take i xs)) ((i, x) ∷ []))
