-- What a file got of a record, and what waits to be written.
use Rattle.std.specs.Prelude.{◌≡◌, ℕ, ◌+◌, ◌<◌, ◌≤◌, Bool, true, false, not, List, [], ◌∷◌, ◌++◌, length, Option, Some, None, IfSome}
use Rattle.std.specs.Io.KnownBytes.{Appends}
use Rattle.srm_names.specs.Histories.{since}
use Rattle.srm_output.specs.Writing.{AppendsAllBut, AppendsFront}
use Rattle.srm_entries.specs.declared.entry.Entry.{Entry}
use Rattle.srm_frames.specs.declared.beginning.Beginning.{Beginning}
use Rattle.srm_frames.specs.declared.line.Line.{Line}
use Rattle.srm_record.specs.declared.record_file.TheConstants.{MOST_WAITING}
use Rattle.srm_replays.specs.Calls.{is_empty}
use Rattle.srm_record.specs.Calls.{line_of, lines_of}
use Rattle.srm_frames.specs.Lines.{line_text, lines_text}
use Rattle.srm_record.specs.Records.{record_of, last_of_record}

-- What contracts see of a file that a record is written to: what it held at first and holds now, where that is known, what waits to be written, the last
-- moment in the record, and whether the file or memory failed.
pub record FileView : Type 0 where
  pub beginning : Beginning
  pub first : Option (List ℕ)
  pub now : Option (List ℕ)
  pub waiting : List ℕ
  pub last : ℕ
  pub failed : Bool

-- The bytes that the file took, and then those that wait, are the text; where something failed, it took a front of the text.
pub record HasText (v : FileView) (text : List ℕ) : Type 0 where
  pub whole : v.failed ≡ false → AppendsAllBut v.first v.now text v.waiting
  pub front : AppendsFront v.first v.now text

-- the call sent datagrams
abbrev pub sends : Entry → Bool
sends e = not (is_empty e.effects.outs)

abbrev pub text_if : Option Line → List ℕ
text_if None = []
text_if (Some l) = line_text l

-- the frame of a call, if it acts
abbrev pub call_text : ℕ → Entry → List ℕ
call_text session e = text_if (line_of session e)

-- the frames of the calls behind the last one that sends
abbrev pub text_since_sending : Beginning → List Entry → List ℕ
text_since_sending b es = lines_text (lines_of b.config.session (since sends es))

-- The file has the record of these calls. Of the calls up to the last one that sends, nothing waits; of the others, less than so many bytes.
pub record HasRecord (v : FileView) (es : List Entry) : Type 0 where
  pub text : HasText v (record_of v.beginning es)
  pub waits : v.failed ≡ false → length v.waiting ≤ length (text_since_sending v.beginning es)
  pub few : v.failed ≡ false → length v.waiting < MOST_WAITING
  pub last : v.last ≡ last_of_record v.beginning es

-- what a file has taken stays there, in front of any more
abbrev pub Stays : Option (List ℕ) → Option (List ℕ) → Type 0
Stays old new = (more : List ℕ) × Appends old new more

-- bytes stand behind those so far
pub record Adds (old new : FileView) (bytes : List ℕ) : Type 0 where
  pub beginning : new.beginning ≡ old.beginning
  pub first : new.first ≡ old.first
  pub now : new.now ≡ old.now
  pub last : new.last ≡ old.last
  pub text : (text : List ℕ) → HasText old text → HasText new (text ++ bytes)
  pub works : new.failed ≡ false → old.failed ≡ false
  pub waits : new.failed ≡ false → length new.waiting ≤ length old.waiting + length bytes

-- Bytes stand behind those so far, and any of them may be written.
pub record GoesOn (old new : FileView) (bytes : List ℕ) : Type 0 where
  pub beginning : new.beginning ≡ old.beginning
  pub first : new.first ≡ old.first
  pub now : Stays old.now new.now
  pub last : new.last ≡ old.last
  pub text : (text : List ℕ) → HasText old text → HasText new (text ++ bytes)

-- what waited is written
pub record Writes (old new : FileView) : Type 0 where
  pub beginning : new.beginning ≡ old.beginning
  pub first : new.first ≡ old.first
  pub now : Stays old.now new.now
  pub last : new.last ≡ old.last
  pub text : (text : List ℕ) → HasText old text → HasText new text
  pub works : new.failed ≡ false → old.failed ≡ false
  pub none_waits : new.failed ≡ false → new.waiting ≡ []

-- what waited is written, or some of it, so that few bytes wait, and all where the call sends
pub record WritesIf (old new : FileView) (e : Entry) : Type 0 where
  pub beginning : new.beginning ≡ old.beginning
  pub first : new.first ≡ old.first
  pub last : new.last ≡ old.last
  pub text : (text : List ℕ) → HasText old text → HasText new text
  pub works : new.failed ≡ false → old.failed ≡ false
  pub waits : new.failed ≡ false → length new.waiting ≤ length old.waiting
  pub few : new.failed ≡ false → length new.waiting < MOST_WAITING
  pub sent : new.failed ≡ false → sends e ≡ true → new.waiting ≡ []

-- the call stands behind those so far
pub record Notes (old new : FileView) (e : Entry) : Type 0 where
  pub beginning : new.beginning ≡ old.beginning
  pub first : new.first ≡ old.first
  pub record_goes_on : (es : List Entry) → HasRecord old es → HasRecord new (es ++ e ∷ [])

-- the call stands behind those in the file, if there is one
abbrev pub NotesIn : Option FileView → Option FileView → Entry → Type 0
NotesIn None None e = Unit {0}
NotesIn (Some old) (Some new) e = Notes old new e
NotesIn _ _ e = ⊥

-- What contracts see of a history whose calls are written to a file, if there is one: the history, its entries, and the file.
pub record WrittenView (P : Type 0) : Type 0 where
  pub past : P
  pub entries : List Entry
  pub file : Option FileView

-- the file, if there is one, has the record of these calls
abbrev pub IsWritten : List Entry → Option FileView → Type 0
IsWritten es file = IfSome file (λ v. HasRecord v es)
