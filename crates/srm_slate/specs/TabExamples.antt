-- What a tab is told frame by frame, and what becomes of what it draws, in examples.
use Rattle.std.specs.Prelude.{◌≡◌, ℕ, ◌+◌, ◌<◌, false, List, [], ◌∷◌, refl}
use Rattle.std.proofs.Common.{arith}
use Rattle.srm_names.specs.declared.page_msg.PageMsg.TheVariants.{Left}
use Rattle.srm_names.specs.Names.{first_page}
use Rattle.srm_slate.specs.declared.easel.Drawn.TheVariants.{Taken as WasTaken, Full, Over}
use Rattle.srm_slate.specs.declared.hand.Place.TheVariants.{Before, Next, Ahead}
use Rattle.srm_slate.specs.declared.taken.Taken.{Taken}
use Rattle.srm_slate.specs.Hands.{GivenView, idle, place_of, after_drawn, after_passed, IsOnce}
use Rattle.srm_slate.specs.Tabs.{SheetView, TabView, all_told, told_sheet, Follow, AreOf}

abbrev left : ℕ → Taken
left source = record { slot = 0; message = Left source }

abbrev five : List Taken
five = left 0 ∷ left 1 ∷ left 2 ∷ left 3 ∷ left 4 ∷ []

abbrev six : List Taken
six = left 0 ∷ left 1 ∷ left 2 ∷ left 3 ∷ left 4 ∷ left 5 ∷ []

-- a frame of one message, for a tab that has so many
abbrev frame : ℕ → List Taken → SheetView
frame n shown = record { before = record { from = n; seen = 0 }; after = record { from = n + 1; seen = 0 }; shown = shown; has_more = false }

-- a tab that came with four messages
abbrev tab : TabView
tab = record { first = 4; at = record { from = 4; seen = 0 }; frames = [] }

-- then it was told two frames, one before the sixth message was taken, and one behind it
abbrev tab_of_two : TabView
tab_of_two = told_sheet (frame 5 six) (told_sheet (frame 4 five) tab)

two_frames_tell_two_messages : all_told tab_of_two.frames ≡ left 4 ∷ left 5 ∷ []
two_frames_tell_two_messages = refl

and_the_tab_has_six : tab_of_two.at.from ≡ 6
and_the_tab_has_six = refl

one_follows_the_other : Follow 4 tab_of_two.frames
one_follows_the_other = (refl, (refl, tt))

and_both_are_of_what_is_taken : AreOf six tab_of_two.frames
and_both_are_of_what_is_taken = ((left 5 ∷ [], refl), (([], refl), tt))

the_first_stroke_is_the_next : place_of 0 1 ≡ Next
the_first_stroke_is_the_next = refl

the_second_waits_for_it : place_of 0 2 ≡ Ahead
the_second_waits_for_it = refl

what_was_taken_is_before : place_of 1 1 ≡ Before
what_was_taken_is_before = refl

-- the stroke with the body 120 and this number
abbrev given : ℕ → GivenView
given number = record { number = number; page = first_page; body = 120 ∷ [] }

a_stroke_is_taken : after_drawn 1 first_page (120 ∷ []) WasTaken idle ≡ record { settled = 1; given = given 1 ∷ [] }
a_stroke_is_taken = refl

a_full_member_takes_none : after_drawn 1 first_page (120 ∷ []) Full idle ≡ idle
a_full_member_takes_none = refl

one_that_left_takes_none : after_drawn 1 first_page (120 ∷ []) Over idle ≡ idle
one_that_left_takes_none = refl

what_is_told_as_not_taken_is_settled : after_passed 1 idle ≡ record { settled = 1; given = [] }
what_is_told_as_not_taken_is_settled = refl

one_and_three_were_taken_once : IsOnce (record { settled = 3; given = given 1 ∷ given 3 ∷ [] })
one_and_three_were_taken_once = record { rises = (omega arith, (omega arith, omega arith)) }

twice_is_not_once : IsOnce (record { settled = 3; given = given 1 ∷ given 1 ∷ [] }) → ⊥
twice_is_not_once once = let low : 1 < 1 = once.rises.1.0 in absurd (omega (arith, low))

three_before_one_is_not_in_order : IsOnce (record { settled = 3; given = given 3 ∷ given 1 ∷ [] }) → ⊥
three_before_one_is_not_in_order once = let low : 3 < 1 = once.rises.1.0 in absurd (omega (arith, low))
