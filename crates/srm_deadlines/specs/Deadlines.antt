-- Which deadlines are due.
use Rattle.std.specs.Prelude.{◌≡◌, ℕ, ◌≤◌, true, List, length}
use Rattle.srm_names.specs.FullName.{FullName}
use Rattle.srm_names.specs.Names.{among}
use Rattle.srm_names.specs.Moments.{has_come}
use Rattle.srm_deadlines.specs.declared.by_name.NamedValue.{NamedValue}
use Rattle.srm_deadlines.specs.Places.{value_at}

-- whatever is due is among these names
pub record DueAmong (now : ℕ) (places : List (NamedValue ℕ)) (names : List FullName) : Type 0 where
  pub each : (n : FullName) → has_come now (value_at places n) ≡ true → among names n ≡ true

-- what is due are at most so many names
pub record DueHasRoom (now : ℕ) (places : List (NamedValue ℕ)) (room : ℕ) : Type 0 where
  pub names : List FullName
  pub due : DueAmong now places names
  pub few : length names ≤ room
