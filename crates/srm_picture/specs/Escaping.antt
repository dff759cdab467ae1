-- Escaping text for XML.
use Rattle.std.specs.Prelude.{ℕ, ◌==◌, nat_le, ◌&&◌, List, [], ◌∷◌, codes, if◌then◌else◌}
use Rattle.std.specs.List.{flat_map}

-- printable ASCII goes from the space to the tilde
abbrev space : ℕ
space = 32

abbrev tilde : ℕ
tilde = 126

-- a byte that isn't printable ASCII becomes a question mark
abbrev pub printable : ℕ → List ℕ
printable byte = if nat_le space byte && nat_le byte tilde then byte ∷ [] else codes "?"

-- a byte with a meaning in XML becomes an entity
abbrev pub escape : ℕ → List ℕ
escape byte =
    if byte == 38 then codes "&amp;"
    else if byte == 60 then codes "&lt;"
    else if byte == 62 then codes "&gt;"
    else if byte == 34 then codes "&quot;"
    else printable byte

abbrev pub escaped : List ℕ → List ℕ
escaped text = flat_map escape text
