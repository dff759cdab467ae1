-- The definitions at worked examples.
use Rattle.std.specs.Prelude.{◌≡◌, ℕ, false, [], ◌∷◌, Some, None, refl}
use Rattle.srm_outbox.specs.declared.out.Out.{Out}
use Rattle.srm_names.specs.Names.{first_page}
use Rattle.srm_codec.specs.declared.datagram.Datagram.TheVariants.{Session}
use Rattle.srm_seat.specs.declared.seat.Handover.TheVariants.{Nothing, Short, Copied}
use Rattle.srm_seat.specs.Calls.{HandsOver, laid_over, TakesFirst}

-- ---- bytes over a room

lies_in_front : laid_over (1 ∷ 2 ∷ []) (7 ∷ 8 ∷ 9 ∷ []) ≡ 1 ∷ 2 ∷ 9 ∷ []
lies_in_front = refl

fills_it : laid_over (1 ∷ 2 ∷ []) (7 ∷ 8 ∷ []) ≡ 1 ∷ 2 ∷ []
fills_it = refl

is_too_long : laid_over (1 ∷ 2 ∷ []) (7 ∷ []) ≡ 7 ∷ []
is_too_long = refl

-- ---- the first of a list

the_first : TakesFirst {A = ℕ} (4 ∷ 5 ∷ []) (Some 4) (5 ∷ [])
the_first = (refl, refl)

no_first : TakesFirst {A = ℕ} [] None []
no_first = (refl, refl)

-- ---- a datagram of three bytes before one of two, into rooms of four, three and two bytes

abbrev three : Out
three = record { datagram = Session 0 0 false first_page [] []; bytes = 1 ∷ 2 ∷ 3 ∷ [] }

abbrev two : Out
two = record { datagram = Session 1 0 false first_page [] []; bytes = 4 ∷ 5 ∷ [] }

long_room : HandsOver (three ∷ two ∷ []) (two ∷ []) (7 ∷ 7 ∷ 7 ∷ 7 ∷ []) (1 ∷ 2 ∷ 3 ∷ 7 ∷ []) (Copied 3)
long_room = (refl, refl, refl)

just_room : HandsOver (three ∷ two ∷ []) (two ∷ []) (7 ∷ 7 ∷ 7 ∷ []) (1 ∷ 2 ∷ 3 ∷ []) (Copied 3)
just_room = (refl, refl, refl)

short_room : HandsOver (three ∷ two ∷ []) (three ∷ two ∷ []) (7 ∷ 7 ∷ []) (7 ∷ 7 ∷ []) (Short 3)
short_room = (refl, refl, refl)

none_left : HandsOver [] [] (7 ∷ []) (7 ∷ []) Nothing
none_left = (refl, refl, refl)
