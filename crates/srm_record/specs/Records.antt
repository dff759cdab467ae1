-- The record of a member: how it began, what it was handed, call by call, what its page workers took, and that it ended.
use Rattle.std.specs.Prelude.{ℕ, List, [], ◌∷◌, ◌++◌}
use Rattle.srm_names.specs.declared.page_msg.PageMsg.{PageMsg}
use Rattle.srm_entries.specs.declared.entry.Entry.{Entry}
use Rattle.srm_frames.specs.declared.beginning.Beginning.{Beginning}
use Rattle.srm_frames.specs.declared.line.Line.{Line}
use Rattle.srm_frames.specs.Beginnings.{beginning_text}
use Rattle.srm_record.specs.Calls.{lines_of, last_recorded}
use Rattle.srm_frames.specs.Lines.{lines_text}
use Rattle.srm_record.specs.Takes.{takes_at, end_at}

-- the bytes of a record with this beginning and these lines
unfoldable pub record_text : Beginning → List Line → List ℕ
record_text b lines = beginning_text b ++ lines_text lines

-- the lines of a member that began so and did this, as far as it has come
abbrev pub lines_so_far : Beginning → List Entry → List Line
lines_so_far b es = lines_of b.config.session es

-- the last moment in them
abbrev pub last_of_record : Beginning → List Entry → ℕ
last_of_record b es = last_recorded b.made es

-- the same, and behind it what its page workers took
abbrev pub lines_with_takes : Beginning → List Entry → List (List PageMsg) → List Line
lines_with_takes b es lists = lines_so_far b es ++ takes_at (last_of_record b es) lists

-- the lines of a member that ended
abbrev pub whole_lines : Beginning → List Entry → List (List PageMsg) → List Line
whole_lines b es lists = lines_with_takes b es lists ++ end_at (last_of_record b es) ∷ []

abbrev pub record_of : Beginning → List Entry → List ℕ
record_of b es = record_text b (lines_so_far b es)

abbrev pub whole_record : Beginning → List Entry → List (List PageMsg) → List ℕ
whole_record b es lists = record_text b (whole_lines b es lists)
