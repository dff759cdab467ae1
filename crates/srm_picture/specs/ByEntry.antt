-- Lists made of entries one by one, each with its place.
use Rattle.std.specs.Prelude.{ℕ, List}
use Rattle.std.specs.List.{flat_map, enumerate_from}
use Rattle.srm_entries.specs.declared.entry.Entry.{Entry}
use Rattle.srm_picture.specs.declared.point.Point.{Point}

-- what is made of each element with its place in the list, from 0
abbrev pub by_entry : {X Y : Type 0} → (ℕ × X → List Y) → List X → List Y
by_entry f xs = flat_map f (enumerate_from 0 xs)

abbrev pub point_of : ℕ × Entry → Point
point_of r = record { entry = r.0; member = r.1.member }
