-- What contracts see of what befell a member.
use Rattle.std.specs.Prelude.{ℕ, List}
use Rattle.srm_slate.specs.declared.happening.Happening.{Happening}

-- those that are kept, the oldest first, and how many there were
pub record HappeningsView : Type 0 where
  pub kept : List Happening
  pub count : ℕ
