-- Moments that come.
use Rattle.std.specs.Prelude.{ℕ, nat_le, Bool, false, Option, Some, None}

-- the deadline has expired; where there is none, none does
abbrev pub has_come : ℕ → Option ℕ → Bool
has_come now None = false
has_come now (Some moment) = nat_le moment now
