-- What the members of a session are called.
use Rattle.std.specs.Prelude.{ℕ, List, ◌++◌, map, Option, Some, None, String, slice_get, string_bytes, codes}
use Rattle.std.specs.Fmt.{decimal}
use Rattle.std.specs.Global.{Global}
use Rattle.srm_room.specs.Rooms.{Person}

-- the bytes of texts
abbrev pub said : List (String Global) → List (List ℕ)
said texts = map string_bytes texts

-- what a room calls its members
abbrev pub names_of : List Person → List (List ℕ)
names_of ps = map (λ (p : Person). p.name) ps

abbrev pub called_of : Option (List ℕ) → ℕ → List ℕ
called_of (Some name) m = name
called_of None m = decimal m

-- a member's name, or its number
abbrev pub called : List (List ℕ) → ℕ → List ℕ
called names m = called_of (slice_get names m) m

abbrev pub titled_of : Option (List ℕ) → ℕ → List ℕ
titled_of (Some name) m = name
titled_of None m = codes "member " ++ decimal m

-- a member's name, or 'member' and its number
abbrev pub titled : List (List ℕ) → ℕ → List ℕ
titled names m = titled_of (slice_get names m) m
