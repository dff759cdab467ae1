-- Which member of a room has a name or a place.
use Rattle.std.specs.Prelude.{ℕ, ◌+◌, ◌*◌, ◌-◌, suc, min, nat_lt, if◌then◌else◌, List, [], ◌∷◌, length, Option, Some, None}
use Rattle.std.specs.Char.{is_ascii_digit}
use Rattle.std.specs.Str.{bytes_eq}
use Rattle.srm_names.specs.declared.limits.TheConstants.{MEMBERS}
use Rattle.srm_room.specs.Rooms.{Person}

-- the number that digits say, below 32 or else 32
abbrev pub place_step : ℕ → ℕ → ℕ
place_step n b = if is_ascii_digit b then min MEMBERS (n * 10 + (b - 48)) else MEMBERS

abbrev pub place_behind : ℕ → List ℕ → ℕ
place_behind n [] = n
place_behind n (b ∷ text) = place_behind (place_step n b) text

-- the place that a text says, from 0; 32 for none
abbrev pub place_in : List ℕ → ℕ
place_in [] = MEMBERS
place_in (b ∷ text) = place_behind 0 (b ∷ text)

-- the first with this name, counted from a place
abbrev pub named_from : ℕ → List Person → List ℕ → Option ℕ
named_from place [] name = None
named_from place (p ∷ ps) name = if bytes_eq p.name name then Some place else named_from (suc place) ps name

abbrev pub place_or : Option ℕ → ℕ → ℕ
place_or (Some place) other = place
place_or None other = other

abbrev pub place_of : List Person → List ℕ → ℕ
place_of ps me = place_or (named_from 0 ps me) (place_in me)

-- Who has this name or this place among the members. No name is a number.
abbrev pub member_of : List Person → List ℕ → Option ℕ
member_of ps me = if nat_lt (place_of ps me) (length ps) then Some (place_of ps me) else None
