-- What came to nothing, counted.
use Rattle.std.specs.Prelude.{ℕ, min, ◌==◌, Bool, true, false, ◌&&◌, List, [], ◌∷◌, count_by, is_some}
use Rattle.srm_entries.specs.declared.entry.Entry.{Entry}
use Rattle.srm_entries.specs.declared.entry.Input.{Input}
use Rattle.srm_entries.specs.declared.entry.Input.TheVariants.{Noise}
use Rattle.srm_entries.specs.declared.entry.Verdict.{Verdict}
use Rattle.srm_entries.specs.declared.entry.Verdict.TheVariants.{Ignored, Refused}
use Rattle.srm_entries.specs.Causes.{cause_number}
use Rattle.srm_wire.specs.Wires.{greatest_count}
use Rattle.srm_node.specs.declared.counting.Counts.{Counts}
use Rattle.srm_node.specs.Carrying.{drew}

abbrev pub is_noise : Input → Bool
is_noise Noise = true
is_noise _ = false

abbrev pub is_drawn : Input → Bool
is_drawn i = is_some (drew i)

abbrev pub is_refused : Verdict → Bool
is_refused (Refused fault) = true
is_refused _ = false

abbrev pub ignored_by : ℕ → Verdict → Bool
ignored_by number (Ignored cause) = cause_number cause == number
ignored_by number _ = false

-- what came that is noise, to a member that is gone too
abbrev pub came_as_noise : Entry → Bool
came_as_noise e = is_noise e.input

-- what was ignored for the cause of this number
abbrev pub was_ignored : ℕ → Entry → Bool
was_ignored number e = ignored_by number e.verdict

-- a stroke that the agent refused, so that it was dropped
abbrev pub was_dropped : Entry → Bool
was_dropped e = is_drawn e.input && is_refused e.verdict

-- how many entries are such, up to the greatest count
abbrev pub count_up_to : (Entry → Bool) → List Entry → ℕ
count_up_to p es = min (count_by p es) greatest_count

abbrev pub count_ignored_for : List Entry → ℕ → ℕ
count_ignored_for es number = count_up_to (was_ignored number) es

-- the noise, what was ignored by cause, and the draws that were refused
abbrev pub counts_of : List Entry → Counts
counts_of es = record {
  noise = count_up_to came_as_noise es;
  ignored = count_ignored_for es 1 ∷ count_ignored_for es 2 ∷ count_ignored_for es 3 ∷ count_ignored_for es 4 ∷ count_ignored_for es 5 ∷ count_ignored_for es 6 ∷ count_ignored_for es 7 ∷ [];
  dropped = count_up_to was_dropped es;
}
