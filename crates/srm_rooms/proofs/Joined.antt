-- What a line says, with a room or without one.
use Rattle.std.proofs.Common.{◌≡◌, ℕ, true, false, List, inl, inr}
use Rattle.std.specs.Prelude.{Option, Some}
use Rattle.srm_room.specs.Rooms.{Content, IsRoom}
use Rattle.srm_rooms.specs.InRoom.{IsInRoom, ReadsBoardInRoom, ReadsInRoom, is_live_line}
use Rattle.srm_rooms.specs.Made.{IsReadAt}
use Rattle.srm_room.specs.Places.{member_of}
use Rattle.srm_rooms.specs.RoomLines.{IsLine, are_own, words_of}
use Rattle.srm_options.specs.declared.board.BoardOptions.{BoardOptions}
use Rattle.srm_options.specs.declared.node_options.NodeOptions.{NodeOptions}
use Rattle.srm_options.specs.MemberNames.{names_of}
use Rattle.srm_rooms.specs.Joins.{AreNames, IsSeat, Names, SaysBoardOptions, SaysOptions}

named : {F : Type 0} (remaining : F → Option (List ℕ)) (words : List (List ℕ)) (file me : List ℕ) (own : List (List ℕ)) (room : Content) (place : ℕ) → IsLine words file (Some me) own → IsSeat remaining me room place → Names remaining words room place own
named remaining words file me own room place line seat = record { is_room = seat.0; read = seat.1; file = file; me = me; line = line; is_me = seat.2 }

pub seated : {F : Type 0} (remaining : F → Option (List ℕ)) (me : List ℕ) (room : Content) (place : ℕ) → IsRoom room → IsReadAt remaining room → member_of room.people me ≡ Some place → IsSeat remaining me room place
seated remaining me room place is read at = (is, read, at)

pub are_names : {F : Type 0} (remaining : F → Option (List ℕ)) (room : Content) (names : List (List ℕ)) → IsRoom room → IsReadAt remaining room → names ≡ names_of room.people → AreNames remaining names
are_names remaining room names is read are = (room, is, read, are)

pub plain : {F : Type 0} (remaining : F → Option (List ℕ)) (Reads : List (List ℕ) → NodeOptions → Type 0) (words : List (List ℕ)) (options : NodeOptions) → Reads words options → SaysOptions remaining Reads words options
plain remaining Reads words options read = inl read

pub in_room : {F : Type 0} (remaining : F → Option (List ℕ)) (Reads : List (List ℕ) → NodeOptions → Type 0) (words : List (List ℕ)) (file me : List ℕ) (own : List (List ℕ)) (room : Content) (place : ℕ) (options : NodeOptions)
    → IsLine words file (Some me) own → IsSeat remaining me room place → ReadsInRoom Reads room place own options → SaysOptions remaining Reads words options
in_room remaining Reads words file me own room place options line seat reads = inr (room, place, own, named remaining words file me own room place line seat, reads)

pub plain_board : {F : Type 0} (remaining : F → Option (List ℕ)) (Reads : List (List ℕ) → BoardOptions → Type 0) (words : List (List ℕ)) (options : BoardOptions) → Reads words options → SaysBoardOptions remaining Reads words options
plain_board remaining Reads words options read = inl read

pub board_in_room : {F : Type 0} (remaining : F → Option (List ℕ)) (Reads : List (List ℕ) → BoardOptions → Type 0) (words : List (List ℕ)) (file me : List ℕ) (own : List (List ℕ)) (room : Content) (place : ℕ) (options : BoardOptions)
    → IsLine words file (Some me) own → IsSeat remaining me room place → ReadsBoardInRoom Reads room place own options → SaysBoardOptions remaining Reads words options
board_in_room remaining Reads words file me own room place options line seat reads = inr (room, place, own, named remaining words file me own room place line seat, reads)

pub reads_in : (Reads : List (List ℕ) → NodeOptions → Type 0) (room : Content) (place : ℕ) (own : List (List ℕ)) (read options : NodeOptions)
    → are_own false own ≡ true → Reads (words_of room place (is_live_line own) own) read → IsInRoom room read options → ReadsInRoom Reads room place own options
reads_in Reads room place own read options may says in_room = (read, may, says, in_room)

pub reads_board_in : (Reads : List (List ℕ) → BoardOptions → Type 0) (room : Content) (place : ℕ) (own : List (List ℕ)) (read options : BoardOptions)
    → are_own false own ≡ true → Reads (words_of room place true own) read → IsInRoom room read.node options.node → options ≡ record read { node = options.node } → ReadsBoardInRoom Reads room place own options
reads_board_in Reads room place own read options may says in_room others = (read, may, says, in_room, others)
