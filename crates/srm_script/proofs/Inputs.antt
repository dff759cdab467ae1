-- An input that was read to its end.
use Rattle.std.proofs.Common.{◌≡◌, ℕ, zero, suc, ◌<◌, List, [], ◌∷◌, ◌++◌, length, take, refl, ap, sym, ◌∙◌, arith}
use Rattle.std.proofs.lemmas.List.{length-take}
use Rattle.std.specs.Prelude.{Option, Some, None, IfSome, option_map}

-- fewer than were asked for are all
short_take : {A : Type 0} (n : ℕ) (xs : List A) → length (take n xs) < n → take n xs ≡ xs
short_take zero xs less = absurd (omega (arith, less))
short_take (suc n) [] less = refl
short_take (suc n) (x ∷ xs) less = ap (λ ys. x ∷ ys) (short_take n xs (omega (arith, less)))

-- so where less was read than the limit, all of the input was read
pub read_whole : (known : Option (List ℕ)) (limit : ℕ) (before bytes : List ℕ) → before ≡ [] → IfSome (option_map (take limit) known) (λ xs. bytes ≡ before ++ xs) → length bytes < limit → IfSome known (λ text. bytes ≡ text)
read_whole None limit before bytes none read less = tt
read_whole (Some text) limit before bytes none read less =
    let all : bytes ≡ take limit text = read ∙ ap (λ b. b ++ take limit text) none in
    all ∙ short_take limit text (omega (arith, less, sym (ap length all)))

-- and where more than so many bytes were read, the input is longer than that
pub read_long : (known : Option (List ℕ)) (limit most : ℕ) (before bytes : List ℕ) → before ≡ [] → IfSome (option_map (take limit) known) (λ xs. bytes ≡ before ++ xs) → most < length bytes → IfSome known (λ text. most < length text)
read_long None limit most before bytes none read more = tt
read_long (Some text) limit most before bytes none read more =
    let all : bytes ≡ take limit text = read ∙ ap (λ b. b ++ take limit text) none in
    omega (arith, more, ap length all, length-take limit text)
