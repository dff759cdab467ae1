-- What contracts see of a list that isn't stored.
use Rattle.std.specs.Prelude.{List, [], ◌∷◌, ◌++◌}
use Rattle.srm_slate.specs.declared.noted.Last.{Last}
use Rattle.srm_slate.specs.declared.noted.Last.TheVariants.{Nothing, Appended}

-- the list before the last item, and then this item
abbrev pub up_to_last : {T : Type 0} → Last T → List T
up_to_last Nothing = []
up_to_last (Appended before last) = before.value ++ last.value ∷ []
