-- What contracts see of a history that isn't stored.
use Rattle.std.specs.Prelude.{List, [], ◌∷◌, ◌++◌}
use Rattle.srm_world.specs.declared.forgotten.Last.{Last}
use Rattle.srm_world.specs.declared.forgotten.Last.TheVariants.{Nothing, Appended}

-- the history before the last item, and then this item
abbrev pub up_to_last : {T : Type 0} → Last T → List T
up_to_last Nothing = []
up_to_last (Appended before last) = before.value ++ last.value ∷ []
