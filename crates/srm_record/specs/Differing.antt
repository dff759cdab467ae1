-- The first line that isn't the one that is wanted there.
use Rattle.std.specs.Prelude.{◌≡◌, ℕ, List, take, slice_get}
use Rattle.srm_frames.specs.declared.line.Line.{Line}

-- The lines are those that are wanted up to this place, and another stands at it, or one alone of the lists goes on.
pub record IsFirstOther (lines wanted : List Line) (place : ℕ) : Type 0 where
  pub before : take place lines ≡ take place wanted
  pub other : slice_get lines place ≡ slice_get wanted place → ⊥
