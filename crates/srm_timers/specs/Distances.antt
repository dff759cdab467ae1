-- A table of distances, by member number, in microseconds.
use Rattle.std.specs.Prelude.{ℕ, ◌≤◌, List, length, slice_index}
use Rattle.srm_names.specs.declared.limits.TheConstants.{MEMBERS, LONGEST_DISTANCE}

abbrev pub distance_to : List ℕ → ℕ → ℕ
distance_to dist member = slice_index dist member

-- it has a distance for each member, each in range
pub record AreDistances (dist : List ℕ) : Type 0 where
  pub for_each : MEMBERS ≤ length dist
  pub in_range : (member : ℕ) → distance_to dist member ≤ LONGEST_DISTANCE
