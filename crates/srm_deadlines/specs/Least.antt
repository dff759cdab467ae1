-- The lesser of two moments that may be none.
use Rattle.std.specs.Prelude.{ℕ, min, Option, Some, None}

abbrev pub lesser : Option ℕ → Option ℕ → Option ℕ
lesser None o = o
lesser (Some a) None = Some a
lesser (Some a) (Some b) = Some (min a b)
