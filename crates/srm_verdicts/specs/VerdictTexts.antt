-- What `srm audit` prints of a verdict on records, which come of files with these paths.
use Rattle.std.specs.Prelude.{ℕ, ◌+◌, ◌-◌, ◌^◌, ◌==◌, nat_lt, min, if◌then◌else◌, List, [], ◌∷◌, ◌++◌, length, map, sum_by, filter, find, zip, flat_map, codes, Bool, true, false, Option, Some, None}
use Rattle.std.specs.Fmt.{decimal}
use denote.Ref.{Bor}
use Rattle.srm_options.specs.MemberNames.{titled}
use Rattle.srm_frames.specs.declared.line.Call.{Call}
use Rattle.srm_frames.specs.declared.line.Call.TheVariants.{Gave}
use Rattle.srm_frames.specs.declared.line.Line.{Line}
use Rattle.srm_frames.specs.declared.reading.Record.{Record}
use Rattle.srm_audited.specs.Sessions.{is_cut}
use Rattle.srm_audited.specs.declared.verdict.Reason.{Reason}
use Rattle.srm_audited.specs.declared.verdict.Reason.TheVariants.{Untold, Roster, Foreign, Unsent}
use Rattle.srm_audited.specs.declared.verdict.Verdict.{Verdict}
use Rattle.srm_audited.specs.declared.verdict.Verdict.TheVariants.{Honest, NotHonest, Undecided}
use Rattle.srm_verdicts.specs.Details.{detail, path_at}
pub use Rattle.srm_verdicts.specs.Calls.{is_call, calls_among}

-- the paths of the records' files
abbrev pub paths_of : List (Bor (List ℕ)) → List (List ℕ)
paths_of paths = map (λ (path : Bor (List ℕ)). path.now) paths

-- ---- what is counted

-- how many calls of its member a record has
abbrev pub calls_in : Record → ℕ
calls_in r = calls_among r.lines.items

-- how many all records have, counted up to 2^64 - 1
abbrev pub calls_in_all : List Record → ℕ
calls_in_all rs = min (sum_by calls_in rs) (2 ^ 64 - 1)

-- how many records are cut
abbrev pub cuts_in : List Record → ℕ
cuts_in rs = length (filter (λ (r : Record). is_cut r.end) rs)

-- the session and how many members it has, by the first record
abbrev pub session_of : List Record → ℕ
session_of [] = 0
session_of (r ∷ rs) = r.beginning.config.session

abbrev pub members_of : List Record → ℕ
members_of [] = 0
members_of (r ∷ rs) = r.beginning.config.members

-- ---- which call of a record an entry of its replay comes of

-- A call is an entry. Where a give's moment hasn't come, the replay lets it come first, which is an entry too.
abbrev pub entries_of_call : Bool → Call → ℕ
entries_of_call true (Gave slot) = 2
entries_of_call later call = 1

-- the entries of a line, where this was the last moment before
abbrev pub entries_of : ℕ → Line → ℕ
entries_of last l = entries_of_call (nat_lt last l.moment) l.call

-- the call that an entry comes of, both from 0, where this was the last moment before
abbrev pub call_at : ℕ → List Line → ℕ → ℕ
call_at last [] entry = 0
call_at last (l ∷ ls) entry = if nat_lt entry (entries_of last l) then 0 else 1 + call_at l.moment ls (entry - entries_of last l)

abbrev pub call_in : Option Record → ℕ → ℕ
call_in None entry = entry
call_in (Some r) entry = call_at r.beginning.made r.lines.items entry

-- the record of a member: the first, if there are several
abbrev pub record_of : List Record → ℕ → Option Record
record_of rs member = find (λ (r : Record). r.beginning.config.me == member) rs

-- the call of a member that an entry comes of
abbrev pub call_of_entry : List Record → ℕ → ℕ → ℕ
call_of_entry rs member entry = call_in (record_of rs member) entry

-- ---- what is printed

-- the end of a word that stands for so many
abbrev pub plural : ℕ → List ℕ
plural count = if count == 1 then [] else codes "s"

abbrev pub counted : ℕ → List ℕ → List ℕ
counted count word = decimal count ++ (codes " " ++ (word ++ plural count))

abbrev pub honest_line : List Record → List ℕ
honest_line rs = codes "honest: session " ++ (decimal (session_of rs) ++ (codes ", " ++ (counted (members_of rs) (codes "member") ++ (codes ", " ++ (counted (calls_in_all rs) (codes "call") ++ codes "\n")))))

abbrev pub reason_line : List (List ℕ) → List (List ℕ) → List Record → Reason → List ℕ
reason_line names paths rs (Untold place line) = codes "not honest: " ++ (path_at paths place ++ codes " isn't the record of any run of its member\n")
reason_line names paths rs Roster = codes "not honest: the records aren't of different members of one session\n"
reason_line names paths rs (Foreign member slot) = codes "not honest: the worker of page slot " ++ (decimal slot ++ (codes " of " ++ (titled names member ++ codes " took what it wasn't given\n")))
reason_line names paths rs (Unsent member entry) = codes "not honest: call " ++ (decimal (call_of_entry rs member entry) ++ (codes " of " ++ (titled names member ++ codes " hears a datagram that nobody can have sent before\n")))

abbrev pub undecided_line : List Record → List ℕ
undecided_line rs = codes "undecided: session " ++ (decimal (session_of rs) ++ (codes ", " ++ (decimal (length rs) ++ (codes " of " ++ (counted (members_of rs) (codes "record") ++ (codes ", " ++ (decimal (cuts_in rs) ++ codes " of them cut\n")))))))

abbrev pub verdict_line : List (List ℕ) → List (List ℕ) → List Record → Verdict → List ℕ
verdict_line names paths rs (Honest t) = honest_line rs
verdict_line names paths rs (NotHonest reason) = reason_line names paths rs reason ++ detail paths rs reason
verdict_line names paths rs Undecided = undecided_line rs

abbrev pub cut_text : Bool → List ℕ
cut_text false = []
cut_text true = codes ", cut"

abbrev pub record_line : List (List ℕ) → List ℕ → Record → List ℕ
record_line names path r = titled names r.beginning.config.me ++ (codes ": " ++ (path ++ (codes ", " ++ (counted (calls_in r) (codes "call") ++ (cut_text (is_cut r.end) ++ codes "\n")))))

abbrev pub line_of : List (List ℕ) → List ℕ × Record → List ℕ
line_of names pair = record_line names pair.0 pair.1

-- the verdict, and a line for each record, by what members are called
abbrev pub verdict_text : List (List ℕ) → List (List ℕ) → List Record → Verdict → List ℕ
verdict_text names paths rs v = verdict_line names paths rs v ++ flat_map (line_of names) (zip paths rs)
