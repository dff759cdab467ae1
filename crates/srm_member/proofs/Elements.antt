-- The texts of a list's elements, gathered and written one after another.
use Rattle.std.proofs.Common.{◌≡◌, ℕ, ◌+◌, ◌<◌, ◌≤◌, List, [], ◌∷◌, ◌++◌, length, get_or, map, take, drop, Option, sym, subst, ap, ◌∙◌, append_assoc, arith}
use Rattle.std.proofs.lemmas.List.{take-append-drop, take_more, flat_map_more, take_all, length-map, get_or-map}
use Rattle.std.proofs.lemmas.List.FromFn.{length-enumerate_from, get_or-enumerate_from}
use Rattle.std.proofs.lemmas.Grind.{flat_map-append}
use Rattle.std.specs.List.{flat_map, enumerate_from}
use Rattle.srm_output.specs.Writing.{AppendsAllBut, AppendsFront}
use Rattle.srm_output.proofs.Gathered.{all_but_on, front_on, front_of_more}

module _ {X : Type 0} (f : X → List ℕ) (a b c : Option (List ℕ)) (before behind : List ℕ) (xs : List X) (at : ℕ) (x : X) where
  one_more : at < length xs → x ≡ get_or xs at x → (before ++ flat_map f (take at xs)) ++ f x ≡ before ++ flat_map f (take (at + 1) xs)
  one_more there is =
      flat_map_more f before (take at xs) x
      ∙ ap (λ (x : X). before ++ flat_map f (take at xs ++ x ∷ [])) is
      ∙ ap (λ (ys : List X). before ++ flat_map f ys) (sym (take_more xs at x there))

  pub element_on : (rest : List ℕ) → at < length xs → x ≡ get_or xs at x → AppendsAllBut a b (before ++ flat_map f (take at xs)) behind
      → AppendsAllBut b c (behind ++ f x) rest → AppendsAllBut a c (before ++ flat_map f (take (at + 1) xs)) rest
  element_on rest there is so_far more =
      subst (λ (text : List ℕ). AppendsAllBut a c text rest) (one_more there is) (all_but_on a b c _ behind _ rest so_far more)

  pub element_front : at < length xs → x ≡ get_or xs at x → AppendsAllBut a b (before ++ flat_map f (take at xs)) behind
      → AppendsFront b c (behind ++ f x) → AppendsFront a c (before ++ flat_map f xs)
  element_front there is so_far more =
      let whole : (before ++ flat_map f (take (at + 1) xs)) ++ flat_map f (drop (at + 1) xs) ≡ before ++ flat_map f xs =
      append_assoc before _ _
      ∙ ap (λ (text : List ℕ). before ++ text) (sym (flat_map-append f (take (at + 1) xs) (drop (at + 1) xs)) ∙ ap (flat_map f) (take-append-drop (at + 1) xs)) in
      subst (AppendsFront a c) whole (front_of_more a c _ _ (subst (AppendsFront a c) (one_more there is) (front_on a b c _ behind _ so_far more)))

  pub elements_all : length xs ≤ at → AppendsAllBut a b (before ++ flat_map f (take at xs)) behind → AppendsAllBut a b (before ++ flat_map f xs) behind
  elements_all all so_far = subst (λ (ys : List X). AppendsAllBut a b (before ++ flat_map f ys) behind) (take_all at xs all) so_far

-- an element with its place
module _ {X Y : Type 0} (f : X → Y) (xs : List X) where
  pub length-numbered : length (enumerate_from 0 (map f xs)) ≡ length xs
  length-numbered = length-enumerate_from 0 (map f xs) ∙ length-map xs f

  pub numbered : (at : ℕ) (x : X) → at < length xs → x ≡ get_or xs at x → (at, f x) ≡ get_or (enumerate_from 0 (map f xs)) at (at, f x)
  numbered at x there is =
      let inside : at < length (map f xs) = rw (length-map xs f) there in
      sym (get_or-enumerate_from 0 (map f xs) at (at, f x) inside ∙ ap (λ (y : Y). (0 + at, y)) (get_or-map f xs at x (f x) there ∙ ap f (sym is)) ∙ ap (λ (n : ℕ). (n, f x)) (omega arith))
