-- Why arguments can't be read, and the statuses, in examples.
use Rattle.std.specs.Prelude.{◌≡◌, [], ◌∷◌, map, refl}
use Rattle.std.specs.declared.io.ErrorKind.TheVariants as kind
use Rattle.srm_arguments.specs.declared.fault.ArgumentFault.TheVariants.{NoText, Memory}
use Rattle.srm_arguments.specs.Statuses.{fault_of_kind, status_of}

why : map fault_of_kind (kind.InvalidData ∷ kind.OutOfMemory ∷ []) ≡ NoText ∷ Memory ∷ []
why = refl

statuses : map status_of (NoText ∷ Memory ∷ []) ≡ 2 ∷ 4 ∷ []
statuses = refl
