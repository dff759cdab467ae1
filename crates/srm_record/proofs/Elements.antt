-- What is made of a list's elements, one behind another.
use Rattle.std.proofs.Common.{◌≡◌, ℕ, ◌+◌, ◌<◌, List, [], ◌∷◌, ◌++◌, length, get_or, map, take, refl, sym, ap, ◌∙◌, arith, append_assoc}
use Rattle.std.specs.Prelude.{Option}
use Rattle.std.proofs.lemmas.List.{length-map, get_or-map}
use Rattle.std.proofs.lemmas.List.Elements.{filter_map-append}
use Rattle.std.proofs.lemmas.List.FromFn.{length-enumerate_from, get_or-enumerate_from}
use Rattle.std.specs.List.{filter_map, cons_option, enumerate_from}
use Rattle.srm_frames.proofs.Elements.{taken_more}
use Rattle.std.proofs.lemmas.List.{map-append}
use Rattle.srm_names.specs.Histories.{count_up}
use Rattle.srm_names.proofs.Snoc.{up_to_more}

pub one_found : {X Y : Type 0} (f : X → Option Y) (xs : List X) (at : ℕ) (x : X) → at < length xs → x ≡ get_or xs at x
    → filter_map f (take at xs) ++ cons_option (f x) [] ≡ filter_map f (take (at + 1) xs)
one_found f xs at x there is = sym (filter_map-append f (take at xs) (x ∷ [])) ∙ ap (filter_map f) (sym (taken_more xs at x there is))

mapped : {X Y : Type 0} (f : X → Y) (xs : List X) (x : X) → map f (xs ++ x ∷ []) ≡ map f xs ++ f x ∷ []
mapped f [] x = refl
mapped f (y ∷ xs) x = ap (λ ys. f y ∷ ys) (mapped f xs x)

pub one_mapped : {X Y : Type 0} (f : X → Y) (before : List Y) (xs : List X) (at : ℕ) (x : X) → at < length xs → x ≡ get_or xs at x
    → (before ++ map f (take at xs)) ++ f x ∷ [] ≡ before ++ map f (take (at + 1) xs)
one_mapped {X} {Y} f before xs at x there is =
    append_assoc before (map f (take at xs)) (f x ∷ [])
    ∙ ap (λ (ys : List Y). before ++ ys) (sym (mapped f (take at xs) x) ∙ ap (map f) (sym (taken_more xs at x there is)))

-- an element with its place
module _ {X Y : Type 0} (f : X → Y) (xs : List X) where
  pub length-numbered : length (enumerate_from 0 (map f xs)) ≡ length xs
  length-numbered = length-enumerate_from 0 (map f xs) ∙ length-map xs f

  pub numbered : (at : ℕ) (x : X) → at < length xs → x ≡ get_or xs at x → (at, f x) ≡ get_or (enumerate_from 0 (map f xs)) at (at, f x)
  numbered at x there is =
      let inside : at < length (map f xs) = rw (length-map xs f) there in
      sym (get_or-enumerate_from 0 (map f xs) at (at, f x) inside ∙ ap (λ (y : Y). (0 + at, y)) (get_or-map f xs at x (f x) there ∙ ap f (sym is)) ∙ ap (λ (n : ℕ). (n, f x)) (omega arith))

-- one list more, slot by slot
pub one_list_more : {X : Type 0} (f : ℕ → X) (before after : List X) (n : ℕ) (x : X) → before ≡ map f (count_up 0 n) → after ≡ before ++ x ∷ [] → x ≡ f n → after ≡ map f (count_up 0 (n + 1))
one_list_more f before after n x so more is = more ∙ ap (λ xs. xs ++ x ∷ []) so ∙ ap (λ y. map f (count_up 0 n) ++ y ∷ []) is ∙ sym (map-append f (count_up 0 n) (n ∷ [])) ∙ ap (map f) (sym (up_to_more n))
