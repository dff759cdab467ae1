-- A history that isn't stored, entry by entry.
use Rattle.std.specs.Prelude.{◌≡◌, List, [], ◌∷◌, refl}
use Rattle.srm_entries.specs.declared.entry.Entry.{Entry}
use Rattle.srm_entries.specs.Sample.{first_drawop, second_drawop, draws}
use Rattle.srm_world.specs.declared.forgotten.Last.{Last}
use Rattle.srm_world.specs.declared.forgotten.Last.TheVariants.{Nothing, Appended}
use Rattle.srm_world.specs.Pasts.{up_to_last}

-- an entry appended to what contracts see
abbrev behind : List Entry → Entry → Last Entry
behind before last = Appended (record { marker = record {}; value = before }) (record { marker = record {}; value = last })

abbrev one : Last Entry
one = behind (up_to_last {T = Entry} Nothing) (draws 0 1 first_drawop)

abbrev two : Last Entry
two = behind (up_to_last one) (draws 0 2 second_drawop)

none_at_first : up_to_last {T = Entry} Nothing ≡ []
none_at_first = refl

the_first : up_to_last one ≡ draws 0 1 first_drawop ∷ []
the_first = refl

in_order : up_to_last two ≡ draws 0 1 first_drawop ∷ draws 0 2 second_drawop ∷ []
in_order = refl

-- the history has what was before its last entry too
not_the_last_alone : up_to_last two ≡ draws 0 2 second_drawop ∷ [] → ⊥
not_the_last_alone e = cc
