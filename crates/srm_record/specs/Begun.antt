-- How the record begins that a history is written to, and when it is stored whole.
use Rattle.std.specs.Prelude.{◌≡◌, ℕ, List, Option, None, option_map, IsSomeAnd, MatchOption}
use Rattle.std.specs.Io.KnownBytes.{Appends}
use Rattle.srm_names.specs.declared.page_msg.PageMsg.{PageMsg}
use Rattle.srm_entries.specs.declared.entry.Entry.{Entry}
use Rattle.srm_world.specs.RecordStarts.{RecordStart}
use Rattle.srm_frames.specs.declared.beginning.Beginning.{Beginning}
use Rattle.srm_record.specs.Records.{whole_record}
use Rattle.srm_record.specs.Replays.{start_of}
use Rattle.srm_record.specs.Writing.{FileView}

-- the record begins so, in a file that held this before
abbrev pub begun_with : Beginning → Option (List ℕ) → RecordStart
begun_with b first = record { start = start_of b; seed = b.seed; wall = b.wall; first = first }

-- the beginning that it has
abbrev pub beginning_in : RecordStart → Beginning
beginning_in r = record { config = r.start.config; made = r.start.made; seed = r.seed; wall = r.wall }

-- how the record in a file begins, if there is a file
abbrev pub begins_in : Option FileView → Option RecordStart
begins_in file = option_map (λ (v : FileView). begun_with v.beginning v.first) file

-- The file has the whole record behind what it held before: its beginning, each call of these entries, what the page workers took, and its end.
abbrev pub IsStored : RecordStart → List Entry → List (List PageMsg) → Option (List ℕ) → Type 0
IsStored r es lists contents = Appends r.first contents (whole_record (beginning_in r) es lists)

-- a history that is written to a record left a file that has all of it, and one that isn't left none
abbrev pub IsRecorded : {F : Type 0} → (F → Option (List ℕ)) → Option RecordStart → List Entry → List (List PageMsg) → Option F → Type 0
IsRecorded contents begins es lists file = MatchOption begins (file ≡ None) (λ r. IsSomeAnd file (λ f. IsStored r es lists (contents f)))
