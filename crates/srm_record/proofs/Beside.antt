-- Lines beside those that are wanted, one after the other.
use Rattle.std.proofs.Common.{◌≡◌, ℕ, ◌+◌, ◌<◌, ◌≤◌, List, [], ◌∷◌, ◌++◌, length, get_or, take, sym, ap, ◌∙◌, arith}
use Rattle.std.specs.Prelude.{Some, slice_get}
use Rattle.std.proofs.lemmas.List.{take_all}
use Rattle.std.proofs.lemmas.Option.{get_or_from_slice_get, none-some, slice_get-get_or, slice_get_past, slice_get_within}
use Rattle.srm_frames.specs.declared.line.Line.{Line}
use Rattle.srm_frames.proofs.Elements.{taken_more}
use Rattle.srm_record.specs.Differing.{IsFirstOther}

-- the wanted one isn't this
pub other_at : (lines wanted : List Line) (place : ℕ) (line : Line) → place < length lines → line ≡ get_or lines place line → take place lines ≡ take place wanted → (slice_get wanted place ≡ Some line → ⊥)
    → IsFirstOther lines wanted place
other_at lines wanted place line there is so differs = record { before = so; other = λ same. differs (sym same ∙ slice_get-get_or lines place line there ∙ ap Some (sym is)) }

-- it is
pub same_more : (lines wanted : List Line) (place : ℕ) (line : Line) → place < length lines → line ≡ get_or lines place line → take place lines ≡ take place wanted → slice_get wanted place ≡ Some line
    → take (place + 1) lines ≡ take (place + 1) wanted
same_more lines wanted place line there is so same =
    taken_more lines place line there is ∙ ap (λ (ls : List Line). ls ++ line ∷ []) so
    ∙ sym (taken_more wanted place line (slice_get_within wanted place line same) (sym (get_or_from_slice_get wanted place line line same)))

-- there are more that are wanted
pub more_wanted : (lines wanted : List Line) (place : ℕ) → place ≡ length lines → length lines < length wanted → take place lines ≡ take place wanted → IsFirstOther lines wanted (length lines)
more_wanted lines wanted place end more so = record {
  before = ap (λ n. take n lines) (sym end) ∙ so ∙ ap (λ n. take n wanted) end;
  other = λ same. absurd (none-some (get_or wanted (length lines) (first wanted more)) (sym (slice_get_past lines (length lines) (omega arith)) ∙ same ∙ slice_get-get_or wanted (length lines) (first wanted more) more));
}
  where
    first : (ls : List Line) → length lines < length ls → Line
    first [] some = absurd (omega (arith, some))
    first (l ∷ ls) some = l

-- there are none
pub all_wanted : (lines wanted : List Line) (place : ℕ) → place ≡ length lines → length wanted ≤ length lines → take place lines ≡ take place wanted → lines ≡ wanted
all_wanted lines wanted place end few so =
    sym (take_all place lines (omega arith)) ∙ so ∙ take_all place wanted (omega arith)
