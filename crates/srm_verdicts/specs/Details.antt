-- Where in the files a reason stands, in words: a line behind that of the verdict, or none.
use Rattle.std.specs.Prelude.{ℕ, ◌+◌, ◌==◌, ◌||◌, not, if◌then◌else◌, List, [], ◌∷◌, ◌++◌, slice_get, take, position, unwrap_or, codes, Bool, Option, Some, None}
use Rattle.std.specs.Fmt.{decimal}
use Rattle.srm_frames.specs.declared.line.Line.{Line}
use Rattle.srm_frames.specs.declared.reading.Record.{Record}
use Rattle.srm_audited.specs.declared.verdict.Reason.{Reason}
use Rattle.srm_audited.specs.declared.verdict.Reason.TheVariants.{Untold, Roster, Foreign, Unsent}
use Rattle.srm_verdicts.specs.Calls.{is_call, calls_among}

abbrev pub path_at : List (List ℕ) → ℕ → List ℕ
path_at paths place = unwrap_or (slice_get paths place) []

-- ---- the first line that differs

-- A line has the number of its call, or of its frame if it is none; both from 0.
abbrev pub name_of : List Line → ℕ → Option Line → List ℕ
name_of ls place None = codes "frame " ++ decimal place
name_of ls place (Some l) = if is_call l.call then codes "call " ++ decimal (calls_among (take place ls)) else codes "frame " ++ decimal place

abbrev pub name_in : Option Record → ℕ → List ℕ
name_in None line = codes "frame " ++ decimal line
name_in (Some r) line = name_of r.lines.items line (slice_get r.lines.items line)

abbrev pub first_other : List (List ℕ) → List Record → ℕ → ℕ → List ℕ
first_other paths rs place line = name_in (slice_get rs place) line ++ (codes " of " ++ (path_at paths place ++ codes " is the first that differs when its calls are made again\n"))

-- ---- records that aren't of different members of one session

abbrev pub is_stranger : Record → Record → Bool
is_stranger first r = not (r.beginning.config.session == first.beginning.config.session) || not (r.beginning.config.members == first.beginning.config.members)

-- the first of these records that isn't of the session and the number of members of this one
abbrev pub stranger_in : List Record → Record → Option ℕ
stranger_in rs first = position (is_stranger first) rs

-- the first record that isn't of those of the record in front
abbrev pub first_stranger : List Record → Option ℕ
first_stranger [] = None
first_stranger (r ∷ rs) = stranger_in (r ∷ rs) r

-- the first of these records that is of the member of this one
abbrev pub twin_in : List Record → Record → Option ℕ
twin_in rs r = position (λ (s : Record). s.beginning.config.me == r.beginning.config.me) rs

abbrev pub double_or : ℕ → Option ℕ → Option (ℕ × ℕ) → Option (ℕ × ℕ)
double_or one (Some other) more = Some (one, one + 1 + other)
double_or one None more = more

-- The first record that has one of the same member behind it, and the first of those. The records' places begin with this one.
abbrev pub first_double : ℕ → List Record → Option (ℕ × ℕ)
first_double one [] = None
first_double one (r ∷ rs) = double_or one (twin_in rs r) (first_double (one + 1) rs)

-- of what the records at two places are
abbrev pub pair_line : List (List ℕ) → ℕ → ℕ → List ℕ → List ℕ
pair_line paths one other what = path_at paths one ++ (codes " and " ++ (path_at paths other ++ (codes " are of " ++ (what ++ codes "\n"))))

abbrev pub line_of_double : List (List ℕ) → Option (ℕ × ℕ) → List ℕ
line_of_double paths None = []
line_of_double paths (Some pair) = pair_line paths pair.0 pair.1 (codes "one member")

abbrev pub line_of_stranger : List (List ℕ) → Option ℕ → List ℕ → List ℕ
line_of_stranger paths (Some other) more = pair_line paths 0 other (codes "different sessions")
line_of_stranger paths None more = more

abbrev pub mixed : List (List ℕ) → List Record → List ℕ
mixed paths rs = line_of_stranger paths (first_stranger rs) (line_of_double paths (first_double 0 rs))

-- ---- all reasons; the others name a call or a page slot of a member

abbrev pub detail : List (List ℕ) → List Record → Reason → List ℕ
detail paths rs (Untold place line) = first_other paths rs place line
detail paths rs Roster = mixed paths rs
detail paths rs (Foreign member slot) = []
detail paths rs (Unsent member entry) = []
