-- Numbers as scripts write them.
use Rattle.std.specs.Prelude.{◌≡◌, ℕ, ◌≤◌, ◌<◌, ◌⊎◌, List, length, slice_index}
use Rattle.std.specs.Fmt.{decimal}

-- the text is the number as it is printed, and the number isn't above the greatest
abbrev pub IsDecimalUpTo : ℕ → List ℕ → ℕ → Type 0
IsDecimalUpTo greatest text number = (number ≤ greatest) × (text ≡ decimal number)

-- the text begins with a plus, or with a zero that has something after it
abbrev pub IsPadded : List ℕ → Type 0
IsPadded text = (slice_index text 0 ≡ 43) ⊎ ((slice_index text 0 ≡ 48) × (1 < length text))
