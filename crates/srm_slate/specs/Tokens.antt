-- The token in the address of a board's page.
use Rattle.std.specs.Prelude.{◌≡◌, ℕ, List, length}
use Rattle.hex.specs.Hex.{encode_lower}

-- the digits of sixteen bytes that the source gave
abbrev pub IsToken : (List ℕ → Type 0) → List ℕ → Type 0
IsToken Gives text = (bytes : List ℕ) × Gives bytes × (length bytes ≡ 16) × (text ≡ encode_lower bytes)
