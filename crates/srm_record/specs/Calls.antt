-- Which calls of a member its record has, and as which lines.
use Rattle.std.specs.Prelude.{ℕ, List, if◌then◌else◌, Option, Some, None, unwrap_or}
use Rattle.std.specs.List.{filter_map}
use Rattle.srm_names.specs.Histories.{last_of}
use Rattle.srm_codec.specs.Spelling.{spelling}
use Rattle.srm_entries.specs.declared.entry.Entry.{Entry}
use Rattle.srm_entries.specs.declared.entry.Input.{Input}
use Rattle.srm_entries.specs.declared.entry.Input.TheVariants.{Drew, Heard, Noise, Ticked, Showed, AskedLeave, Gave, Took}
use Rattle.srm_replays.specs.Calls.{acts}
use Rattle.srm_frames.specs.declared.line.Line.{Line}
use Rattle.srm_frames.specs.declared.line.Call.{Call}
use Rattle.srm_frames.specs.declared.line.Call.TheVariants as calls

-- what the member was handed; of a datagram the bytes that spell it
abbrev pub call_of : ℕ → Input → Option Call
call_of session (Drew page body) = Some (calls.Drew page body)
call_of session (Heard g) = Some (calls.Heard (spelling session g))
call_of session Noise = None
call_of session Ticked = Some calls.Ticked
call_of session (Showed page) = Some (calls.Showed page)
call_of session AskedLeave = Some calls.AskedLeave
call_of session (Gave slot) = Some (calls.Gave slot)
call_of session (Took slot) = None

abbrev pub at_moment : ℕ → Option Call → Option Line
at_moment moment None = None
at_moment moment (Some call) = Some (record { moment = moment; call = call })

-- the line of a call, if it acts
abbrev pub line_of : ℕ → Entry → Option Line
line_of session e = if acts e then at_moment e.moment (call_of session e.input) else None

-- the lines of a member's calls in this session
abbrev pub lines_of : ℕ → List Entry → List Line
lines_of session es = filter_map (line_of session) es

-- the last moment in the record after a call
abbrev pub last_after : ℕ → Entry → ℕ
last_after last e = if acts e then e.moment else last

abbrev pub moment_of_acting : Entry → Option ℕ
moment_of_acting e = if acts e then Some e.moment else None

-- the last moment in the record of a member that was made at a moment
abbrev pub last_recorded : ℕ → List Entry → ℕ
last_recorded made es = unwrap_or (last_of moment_of_acting es) made
