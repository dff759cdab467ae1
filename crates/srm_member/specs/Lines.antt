-- The lines of an input, and whose they are.
use Rattle.std.specs.Prelude.{◌≡◌, ◌≢◌, ℕ, zero, suc, ◌+◌, ◌-◌, ◌<◌, ◌≤◌, ◌==◌, nat_lt, List, [], ◌∷◌, ◌++◌, length, slice_index, slice_get, slice_set, Option, Some, None, if◌then◌else◌}
use Rattle.srm_names.specs.declared.limits.TheConstants.{LONGEST_BODY, PENS}
use Rattle.srm_script.specs.declared.fault.ScriptFault.{ScriptFault}
use Rattle.srm_script.specs.declared.fault.ScriptFault.TheVariants.{BadLine, Memory}

-- these lines, with a byte before the first
abbrev pub before_first : ℕ → List (List ℕ) → List (List ℕ)
before_first c [] = (c ∷ []) ∷ []
before_first c (l ∷ ls) = (c ∷ l) ∷ ls

-- The lines of a text. Each ends with a line end, which the last may lack unless it is empty.
abbrev pub lines_of : List ℕ → List (List ℕ)
lines_of [] = []
lines_of (c ∷ cs) = if c == 10 then [] ∷ lines_of cs else before_first c (lines_of cs)

-- the number of the first line that is too long for a body, where the first line has this number
abbrev pub bad_line : ℕ → List (List ℕ) → Option ℕ
bad_line n [] = None
bad_line n (l ∷ ls) = if nat_lt LONGEST_BODY (length l) then Some n else bad_line (n + 1) ls

-- Each fourth line, after so many others: as many as there are producers are dealt between two of one producer's.
abbrev pub each_fourth : ℕ → List (List ℕ) → List (List ℕ)
each_fourth others [] = []
each_fourth zero (l ∷ ls) = l ∷ each_fourth (PENS - 1) ls
each_fourth (suc others) (l ∷ ls) = each_fourth others ls

-- the lines of each producer
abbrev pub dealt_of : List (List ℕ) → List (List (List ℕ))
dealt_of lines = each_fourth 0 lines ∷ each_fourth 1 lines ∷ each_fourth 2 lines ∷ each_fourth 3 lines ∷ []

-- This list of a producer's bodies has one more, and those of the others are as they were.
abbrev pub AddsTo : ℕ → List ℕ → List (List (List ℕ)) → List (List (List ℕ)) → Type 0
AddsTo pen body old new = (bodies : List (List ℕ)) × (slice_get old pen ≡ Some bodies) × (new ≡ slice_set old pen (bodies ++ body ∷ []))

-- the first line that is too long is named, or memory ran out
abbrev pub IsRefusedFor : List (List ℕ) → ScriptFault → Type 0
IsRefusedFor lines (BadLine n) = bad_line 1 lines ≡ Some n
IsRefusedFor lines Memory = Unit {0}
IsRefusedFor lines _ = ⊥

-- the first line of the text has this length
pub record IsLineEnd (text : List ℕ) (n : ℕ) : Type 0 where
  pub within : n ≤ length text
  pub before : (k : ℕ) → k < n → slice_index text k ≢ 10
  pub there : n < length text → slice_index text n ≡ 10

-- what a text has left behind a line with its end
pub record HasFirstLine (text line left : List ℕ) : Type 0 where
  pub lines : lines_of text ≡ line ∷ lines_of left
  pub less : length left < length text
