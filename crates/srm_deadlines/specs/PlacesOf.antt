-- What contracts see of a table by name.
use Rattle.std.specs.Prelude.{List, map, Option}
use Rattle.srm_names.specs.FullName.{FullName}
use Rattle.srm_deadlines.specs.declared.by_name.NamedValue.{NamedValue}

abbrev pub place_of : {V : Type 0} → FullName × Option V → NamedValue V
place_of e = record { name = e.0; value = e.1 }

abbrev pub places_of : {V : Type 0} → List (FullName × Option V) → List (NamedValue V)
places_of entries = map place_of entries
