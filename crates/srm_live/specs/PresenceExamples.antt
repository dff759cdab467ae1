-- Sets of members, what is known of one, and pages as numbers, in examples.
use Rattle.std.specs.Prelude.{◌≡◌, ℕ, [], ◌∷◌, map, true, false, refl}
use Rattle.srm_live.specs.declared.presence.Standing.TheVariants.{Unheard, Here, Silent, Left}
use Rattle.srm_live.specs.MemberSets.{has}
use Rattle.srm_live.specs.PageCodes.{code_of}
use Rattle.srm_live.specs.Standings.{nobody, standing_of}

members : map (has 5) (0 ∷ 1 ∷ 2 ∷ 31 ∷ []) ≡ true ∷ false ∷ true ∷ false ∷ []
members = refl

-- of four members the first is here, the second was heard and fell silent, the third left, and the last was never heard
standings : map (standing_of (record { heard = 7; silent = 2; left = 4 })) (0 ∷ 1 ∷ 2 ∷ 3 ∷ []) ≡ Here ∷ Silent ∷ Left ∷ Unheard ∷ []
standings = refl

at_first : map (standing_of nobody) (0 ∷ 31 ∷ []) ≡ Unheard ∷ Unheard ∷ []
at_first = refl

pages : map code_of (record { creator = 0; number = 0 } ∷ record { creator = 1; number = 2 } ∷ record { creator = 31; number = 65535 } ∷ []) ≡ 1 ∷ 65539 ∷ 2097152 ∷ []
pages = refl
