-- The lines of a record, and the bytes of each.
use Rattle.std.specs.Prelude.{ℕ, Bool, true, false, List, [], ◌∷◌, ◌++◌}
use Rattle.std.specs.List.{flat_map}
use Rattle.srm_codec.specs.Spelling.{page_bytes}
use Rattle.srm_frames.specs.declared.line.Line.{Line}
use Rattle.srm_frames.specs.declared.line.Call.{Call}
use Rattle.srm_frames.specs.declared.line.Call.TheVariants.{Drew, Heard, Ticked, Showed, AskedLeave, Gave, Took, Ended}
use Rattle.srm_frames.specs.declared.format.TheConstants.{DREW, HEARD, TICKED, SHOWED, ASKED_LEAVE, GAVE, TOOK, ENDED}
use Rattle.srm_frames.specs.Frames.{frame}
use Rattle.srm_frames.specs.Messages.{message_text}

abbrev pub kind_of : Call → ℕ
kind_of (Drew page body) = DREW
kind_of (Heard bytes) = HEARD
kind_of Ticked = TICKED
kind_of (Showed page) = SHOWED
kind_of AskedLeave = ASKED_LEAVE
kind_of (Gave slot) = GAVE
kind_of (Took slot message) = TOOK
kind_of Ended = ENDED

abbrev pub payload_of : Call → List ℕ
payload_of (Drew page body) = page_bytes page ++ body
payload_of (Heard bytes) = bytes
payload_of Ticked = []
payload_of (Showed page) = page_bytes page
payload_of AskedLeave = []
payload_of (Gave slot) = slot ∷ []
payload_of (Took slot message) = slot ∷ message_text message
payload_of Ended = []

-- the frame of a line
unfoldable pub line_text : Line → List ℕ
line_text l = frame (kind_of l.call) l.moment (payload_of l.call)

abbrev pub lines_text : List Line → List ℕ
lines_text lines = flat_map line_text lines

abbrev pub ends_all : Call → Bool
ends_all Ended = true
ends_all _ = false

-- a record ends with this line
abbrev pub is_end : Line → Bool
is_end l = ends_all l.call
