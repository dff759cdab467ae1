-- Which room bytes say, or why they say none.
use Rattle.std.specs.Prelude.{◌≡◌, ◌≤◌, ℕ, List, length, Result, Ok, Err}
use Rattle.std.specs.Str.{IsUtf8}
use Rattle.srm_room.specs.Rooms.{Content}
use Rattle.srm_room.specs.Readings.{said, IsRefusal}
use Rattle.srm_join.specs.declared.reading.TheConstants.{LONGEST_TEXT}
use Rattle.srm_join.specs.declared.refusal.Refusal.{Refusal}
use Rattle.srm_join.specs.declared.refusal.Refusal.TheVariants.{NoText, NoRoom}

-- UTF-8, of at most 65,536 bytes
abbrev pub IsRoomText : List ℕ → Type 0
IsRoomText bytes = (length bytes ≤ LONGEST_TEXT) × IsUtf8 bytes

-- The room that a text says; or that it is too long or no text; or what is wrong with what it says, unless memory ran out.
abbrev pub ReadsText : List ℕ → Result Content Refusal → Type 0
ReadsText bytes (Ok room) = IsRoomText bytes × (said bytes ≡ Ok room)
ReadsText bytes (Err NoText) = IsRoomText bytes → ⊥
ReadsText bytes (Err (NoRoom error)) = IsRoomText bytes × IsRefusal error (said bytes)
