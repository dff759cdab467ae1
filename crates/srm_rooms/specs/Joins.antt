-- The options of a line, with a room or without one.
use Rattle.std.specs.Prelude.{◌≡◌, ◌⊎◌, ℕ, List, Option, Some, None}
use denote.Ref.{Bor}
use Rattle.srm_room.specs.Rooms.{Content, IsRoom}
use Rattle.srm_rooms.specs.InRoom.{ReadsBoardInRoom, ReadsInRoom}
use Rattle.srm_rooms.specs.Made.{IsReadAt}
use Rattle.srm_room.specs.Places.{member_of}
use Rattle.srm_rooms.specs.RoomLines.{IsLine}
use Rattle.srm_options.specs.MemberNames.{names_of}
use Rattle.srm_options.specs.declared.board.BoardOptions.{BoardOptions}
use Rattle.srm_options.specs.declared.node_options.NodeOptions.{NodeOptions}

-- A line names a file and one of the members of a room, and these are its other words. A file that was opened says the room.
pub record Names {F : Type 0} (remaining : F → Option (List ℕ)) (words : List (List ℕ)) (room : Content) (place : ℕ) (own : List (List ℕ)) : Type 0 where
  pub is_room : IsRoom room
  pub read : IsReadAt remaining room
  pub file : List ℕ
  pub me : List ℕ
  pub line : IsLine words file (Some me) own
  pub is_me : member_of room.people me ≡ Some place

-- What a line says: what its words say, or what those say that it stands for in a room.
abbrev pub SaysOptions : {F : Type 0} → (F → Option (List ℕ)) → (List (List ℕ) → NodeOptions → Type 0) → List (List ℕ) → NodeOptions → Type 0
SaysOptions remaining Reads words options = Reads words options ⊎ ((room : Content) × (place : ℕ) × (own : List (List ℕ)) × Names remaining words room place own × ReadsInRoom Reads room place own options)

abbrev pub SaysBoardOptions : {F : Type 0} → (F → Option (List ℕ)) → (List (List ℕ) → BoardOptions → Type 0) → List (List ℕ) → BoardOptions → Type 0
SaysBoardOptions remaining Reads words options = Reads words options ⊎ ((room : Content) × (place : ℕ) × (own : List (List ℕ)) × Names remaining words room place own × ReadsBoardInRoom Reads room place own options)

-- whom a text names in the room of a file
abbrev pub IsSeat : {F : Type 0} → (F → Option (List ℕ)) → List ℕ → Content → ℕ → Type 0
IsSeat remaining me room place = IsRoom room × IsReadAt remaining room × (member_of room.people me ≡ Some place)

-- the names of the members of a file's room
abbrev pub AreNames : {F : Type 0} → (F → Option (List ℕ)) → List (List ℕ) → Type 0
AreNames remaining names = (room : Content) × IsRoom room × IsReadAt remaining room × (names ≡ names_of room.people)

-- members have the names of a room if a line names one
abbrev pub AreNamed : {F : Type 0} → (F → Option (List ℕ)) → Option (Bor (List ℕ)) → List (List ℕ) → Type 0
AreNamed remaining None names = Unit {0}
AreNamed remaining (Some file) names = AreNames remaining names
