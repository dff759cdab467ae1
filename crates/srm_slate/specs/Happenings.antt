-- The last happenings.
use Rattle.std.specs.Prelude.{ℕ, ◌+◌, ◌-◌, ◌^◌, min, List, length, drop}

-- the last n of a list, or all
abbrev pub newest : {X : Type 0} → ℕ → List X → List X
newest n xs = drop (length xs - n) xs

-- a count that stops at 2^64 - 1
abbrev pub one_more : ℕ → ℕ
one_more count = min (count + 1) (2 ^ 64 - 1)
