-- Room for answers, by name.
use Rattle.std.specs.Prelude.{◌≡◌, ℕ, nat_le, Bool, true, false, ◌&&◌, List}
use Rattle.std.specs.List.{list_any}
use Rattle.srm_names.specs.FullName.{FullName}
use Rattle.srm_names.specs.Names.{same_name}

pub record RoomContent : Type 0 where
  pub name : FullName
  pub capacity : ℕ

abbrev pub is_room_for : FullName → ℕ → RoomContent → Bool
is_room_for n count room = same_name room.name n && nat_le count room.capacity

-- there is room for so many names that evidence of this name answers
abbrev pub has_room : List RoomContent → FullName → ℕ → Bool
has_room rooms n count = list_any (is_room_for n count) rooms

pub record StillHasRooms (old new : List RoomContent) : Type 0 where
  pub each : (n : FullName) (count : ℕ) → has_room old n count ≡ true → has_room new n count ≡ true

-- room for answers to other names stays
pub record StillHasOthers (name : FullName) (old new : List RoomContent) : Type 0 where
  pub each : (n : FullName) (count : ℕ) → same_name name n ≡ false → has_room old n count ≡ true → has_room new n count ≡ true
