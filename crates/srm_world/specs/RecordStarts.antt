-- How the record begins that a history is written to.
use Rattle.std.specs.Prelude.{ℕ, List, Option}
use Rattle.srm_world.specs.declared.start.Start.{Start}

-- The member's settings and the moment at which it was made, the seed of its random numbers, the time of day, and what the file held before, where that is known.
pub record RecordStart : Type 0 where
  pub start : Start
  pub seed : ℕ
  pub wall : ℕ
  pub first : Option (List ℕ)
