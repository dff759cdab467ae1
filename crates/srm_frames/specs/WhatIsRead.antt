-- Which record bytes are, as far as they go, and why they are none.
use Rattle.std.specs.Prelude.{◌≡◌, ℕ, ◌<◌, ◌≤◌, ◌^◌, ◌⊎◌, Bool, true, false, List, [], ◌∷◌, ◌++◌, length, Result, Ok, Err}
use Rattle.std.specs.Int.{w32, to_be_bytes}
use Rattle.std.specs.List.{list_any}
use Rattle.srm_names.specs.declared.limits.TheConstants.{PAGES, MEMBERS, LATEST_MOMENT}
use Rattle.srm_names.specs.declared.page_msg.PageMsg.{PageMsg}
use Rattle.srm_names.specs.declared.page_msg.PageMsg.TheVariants as messages
use Rattle.srm_names.specs.Histories.{IsPrefix}
use Rattle.srm_codec.specs.Spelling.{is_page, is_name}
use Rattle.srm_entries.specs.Configs.{IsConfig}
use Rattle.srm_frames.specs.declared.format.TheConstants.{MAGIC, VERSION}
use Rattle.srm_frames.specs.declared.beginning.Beginning.{Beginning}
use Rattle.srm_frames.specs.declared.fault.RecordFault.{RecordFault}
use Rattle.srm_frames.specs.declared.fault.RecordFault.TheVariants.{Magic, Version, Settings, Frame, Memory}
use Rattle.srm_frames.specs.declared.line.Line.{Line}
use Rattle.srm_frames.specs.declared.line.Call.{Call}
use Rattle.srm_frames.specs.declared.line.Call.TheVariants.{Drew, Heard, Ticked, Showed, AskedLeave, Gave, Took, Ended}
use Rattle.srm_frames.specs.declared.reading.Record.{Record}
use Rattle.srm_frames.specs.declared.reading.RecordEnd.{RecordEnd}
use Rattle.srm_frames.specs.declared.reading.RecordEnd.TheVariants.{Whole, Cut}
use Rattle.srm_frames.specs.Frames.{frame, IsFrame}
use Rattle.srm_frames.specs.Beginnings.{beginning_text}
use Rattle.srm_frames.specs.Lines.{payload_of, line_text, lines_text, is_end}

-- ---- what stands in a record

abbrev pub IsMessage : PageMsg → Type 0
IsMessage (messages.Open page) = is_page page
IsMessage (messages.Draw drawop) = is_name drawop.name × (drawop.stamp ≤ LATEST_MOMENT)
IsMessage (messages.Left member) = member < MEMBERS
IsMessage messages.Close = Unit {0}

abbrev pub IsCall : Call → Type 0
IsCall (Drew page body) = is_page page
IsCall (Heard bytes) = Unit {0}
IsCall Ticked = Unit {0}
IsCall (Showed page) = is_page page
IsCall AskedLeave = Unit {0}
IsCall (Gave slot) = slot < PAGES
IsCall (Took slot message) = (slot < PAGES) × IsMessage message
IsCall Ended = Unit {0}

-- a line that has a frame
pub record IsLine (l : Line) : Type 0 where
  pub moment : l.moment ≤ LATEST_MOMENT
  pub call : IsCall l.call
  pub size : length (payload_of l.call) < 2 ^ 32

pub record IsBeginning (b : Beginning) : Type 0 where
  pub config : IsConfig b.config
  pub session : b.config.session < 2 ^ 32
  pub made : b.made ≤ LATEST_MOMENT
  pub seed : b.seed < 2 ^ 64
  pub wall : b.wall < 2 ^ 64

-- ---- lines, one behind the other

-- no line stands at the front
abbrev pub HasNoLine : List ℕ → Type 0
HasNoLine bytes = (l : Line) (rest : List ℕ) → IsLine l → bytes ≡ line_text l ++ rest → ⊥

-- behind the end there are none, and behind another line what is said
abbrev pub NoneOr : Bool → List Line → Type 0 → Type 0
NoneOr true behind More = behind ≡ []
NoneOr false behind More = More

-- these lines up to the end, or to where no line stands
abbrev pub AreAllLines : List Line → List ℕ → Type 0
AreAllLines [] rest = HasNoLine rest
AreAllLines (l ∷ ls) rest = IsLine l × NoneOr (is_end l) ls (AreAllLines ls rest)

-- The bytes are a beginning, lines, and what stands behind them.
pub record Reads (bytes : List ℕ) (b : Beginning) (ls : List Line) (rest : List ℕ) : Type 0 where
  pub text : bytes ≡ beginning_text b ++ (lines_text ls ++ rest)
  pub beginning : IsBeginning b
  pub lines : AreAllLines ls rest

-- ---- a record

-- what contracts see of a record
pub record RecordView : Type 0 where
  pub beginning : Beginning
  pub lines : List Line
  pub end : RecordEnd

abbrev pub seen : Record → RecordView
seen r = record { beginning = r.beginning; lines = r.lines.items; end = r.end }

abbrev pub has_end : List Line → Bool
has_end lines = list_any is_end lines

-- a frame with its checksum stands at the front
pub record HasFrame (bytes : List ℕ) : Type 0 where
  pub kind : ℕ
  pub moment : ℕ
  pub payload : List ℕ
  pub rest : List ℕ
  pub fits : IsFrame kind moment payload
  pub text : bytes ≡ frame kind moment payload ++ rest

-- Whole: the last line is the end, and nothing stands behind it. Cut: there is no end, and so many bytes are left, at whose front no frame stands.
abbrev pub EndsSo : List Line → RecordEnd → List ℕ → Type 0
EndsSo lines Whole rest = (has_end lines ≡ true) × (rest ≡ [])
EndsSo lines (Cut left) rest = (has_end lines ≡ false) × (length rest ≡ left) × (HasFrame rest → ⊥)

-- the bytes are this record
pub record IsRecordIn (bytes : List ℕ) (r : RecordView) : Type 0 where
  pub rest : List ℕ
  pub reads : Reads bytes r.beginning r.lines rest
  pub end : EndsSo r.lines r.end rest

-- ---- why bytes are no record

abbrev pub first_bytes : List ℕ
first_bytes = to_be_bytes w32 MAGIC

abbrev pub versioned : List ℕ
versioned = first_bytes ++ VERSION ∷ []

-- no beginning stands at the front
abbrev pub HasNoBeginning : List ℕ → Type 0
HasNoBeginning bytes = (b : Beginning) (rest : List ℕ) → IsBeginning b → bytes ≡ beginning_text b ++ rest → ⊥

-- Behind so many lines stand bytes behind the end, or a frame that is no line's.
pub record IsBadFrame (bytes : List ℕ) (n : ℕ) : Type 0 where
  pub beginning : Beginning
  pub lines : List Line
  pub rest : List ℕ
  pub reads : Reads bytes beginning lines rest
  pub place : length lines ≡ n
  pub bad : ((has_end lines ≡ true) × (rest ≡ [] → ⊥)) ⊎ ((has_end lines ≡ false) × HasFrame rest)

abbrev pub IsFault : List ℕ → RecordFault → Type 0
IsFault bytes Magic = IsPrefix first_bytes bytes → ⊥
IsFault bytes Version = IsPrefix first_bytes bytes × (IsPrefix versioned bytes → ⊥)
IsFault bytes Settings = IsPrefix versioned bytes × HasNoBeginning bytes
IsFault bytes (Frame place) = IsBadFrame bytes place
IsFault bytes Memory = Unit {0}

-- ---- what reading answers

-- a record that was found is the one that the bytes are, and a fault is one that they have
abbrev pub IsJudged : List ℕ → Result Record RecordFault → Type 0
IsJudged bytes (Ok r) = IsRecordIn bytes (seen r)
IsJudged bytes (Err fault) = IsFault bytes fault

-- This record is found, unless memory ran out.
abbrev pub IsFound : RecordView → Result Record RecordFault → Type 0
IsFound v (Ok r) = seen r ≡ v
IsFound v (Err fault) = fault ≡ Memory
