-- The options of a line with a room.
use Rattle.std.specs.Prelude.{◌≡◌, ℕ, Bool, true, false, ◌||◌, List, [], ◌∷◌, codes, bytes_eq, Option, Some}
use Rattle.srm_room.specs.Rooms.{Content}
use Rattle.srm_options.specs.declared.board.BoardOptions.{BoardOptions}
use Rattle.srm_options.specs.declared.key_source.KeySource.{KeySource}
use Rattle.srm_options.specs.declared.key_source.KeySource.TheVariants.{Room}
use Rattle.srm_options.specs.declared.node_options.NodeOptions.{NodeOptions}
use Rattle.srm_options.specs.MemberNames.{names_of}
use Rattle.srm_rooms.specs.RoomLines.{are_own, words_of}

-- the key is a room's, with these bytes
abbrev pub IsKeyOf : List ℕ → Option KeySource → Type 0
IsKeyOf key (Some (Room bytes)) = bytes.items ≡ key
IsKeyOf key source = ⊥

-- These options are others with the key and the names of a room.
pub record IsInRoom (r : Content) (read options : NodeOptions) : Type 0 where
  pub names : options.names ≡ names_of r.people
  pub key : IsKeyOf r.key options.guard.key
  pub others : options ≡ record read { guard = record read.guard { key = options.guard.key }; names = options.names }

-- a line for a live member
abbrev pub is_live_line : List (List ℕ) → Bool
is_live_line [] = false
is_live_line (word ∷ words) = bytes_eq word (codes "--live") || is_live_line words

-- A line with a room names this member, and has these other words, which say nothing that the room says for all. Its options are those that were read of the words that it stands
-- for, with the room's key and names.
abbrev pub ReadsInRoom : (List (List ℕ) → NodeOptions → Type 0) → Content → ℕ → List (List ℕ) → NodeOptions → Type 0
ReadsInRoom Reads r me own options = (read : NodeOptions) × (are_own false own ≡ true) × Reads (words_of r me (is_live_line own) own) read × IsInRoom r read options

-- So has a board, whose member is live.
abbrev pub ReadsBoardInRoom : (List (List ℕ) → BoardOptions → Type 0) → Content → ℕ → List (List ℕ) → BoardOptions → Type 0
ReadsBoardInRoom Reads r me own options = (read : BoardOptions) × (are_own false own ≡ true) × Reads (words_of r me true own) read × IsInRoom r read.node options.node × (options ≡ record read { node = options.node })
