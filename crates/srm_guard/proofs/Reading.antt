-- A key that was read is all that its reader had.
use Rattle.std.proofs.Common.{◌≡◌, ℕ, ◌<◌, ◌≤◌, List, [], ◌++◌, length, take, ap, ◌∙◌, arith}
use Rattle.std.proofs.lemmas.List.{length-take, take_all}
use Rattle.std.specs.Prelude.{Option, Some, None, option_map, IfSome}

-- a list that is shorter than a bound and the front of another up to it is all of the other
all_of : (xs read : List ℕ) (limit : ℕ) → read ≡ take limit xs → length read < limit → read ≡ xs
all_of xs read limit is few =
    let short : length xs ≤ limit = omega (arith, length-take limit xs, ap length is, few) in
    is ∙ take_all limit xs short

pub read_whole : (left left' : Option (List ℕ)) (limit : ℕ) (old key read : List ℕ) → limit ≡ 1025 → left' ≡ left → old ≡ [] → IfSome (option_map (take limit) left') (λ xs. read ≡ old ++ xs) → key ≡ read → length read ≤ 1024 → IfSome left (λ bytes. key ≡ bytes)
read_whole None left' limit old key read at same none was value few = tt
read_whole (Some xs) None limit old key read at same none was value few = absurd (cc same)
read_whole (Some xs) (Some ys) limit old key read at same none was value few =
    let read_is : read ≡ take limit ys = was ∙ ap (λ zs. zs ++ take limit ys) none in
    let all : read ≡ ys = all_of ys read limit read_is (omega (arith, at, few)) in
    let ys_is : ys ≡ xs = cc same in
    value ∙ (all ∙ ys_is)
