-- What draws are admitted, at worked examples.
use Rattle.std.specs.Prelude.{◌≡◌, ℕ, true, false, List, [], ◌∷◌, ◌++◌, map, refl}
use Rattle.srm_names.specs.declared.drawop.Drawop.{Drawop}
use Rattle.srm_names.specs.Histories.{count_up}
use Rattle.srm_codec.specs.declared.datagram.Datagram.TheVariants.{Data}
use Rattle.srm_codec.specs.Spelling.{length_of}
use Rattle.srm_bucket.specs.declared.class.Class.TheVariants.{New}
use Rattle.srm_entries.specs.Bucket.{Going, idle, classed}
use Rattle.srm_entries.specs.Admitting.{draw_length, admits_draw}
use Rattle.srm_entries.specs.declared.entry.Entry.{Entry}
use Rattle.srm_entries.specs.declared.entry.Input.TheVariants.{Showed}
use Rattle.srm_entries.specs.declared.state.AgentState.TheVariants.{Active}
use Rattle.srm_entries.specs.Sample.{in_roster, drawop_of, quiet, entry, draws, ticks, full, elsewhere}

lengths : map draw_length (0 ∷ 1 ∷ 1024 ∷ 1025 ∷ 5000 ∷ []) ≡ 27 ∷ 28 ∷ 1051 ∷ 1051 ∷ 1051 ∷ []
lengths = refl

-- bodies of 1,024 bytes that were drawn and wait: of a full bucket three and one more go, a fifth doesn't
abbrev drawn : ℕ → List Going
drawn count = map (λ n. idle (draws 0 1 (full n))) (count_up 1 count)

as_charged : length_of (Data (full 1)) ≡ draw_length 1024
as_charged = refl

fourth_too : admits_draw (in_roster 0 2 4204) 0 (drawn 3) 1024 0 ≡ true
fourth_too = refl

not_the_fifth : admits_draw (in_roster 0 2 4204) 0 (drawn 4) 1024 0 ≡ false
not_the_fifth = refl

-- after four went at 10 the fifth waits: one more is admitted once both are paid for, and a moment below the last counts as the last
abbrev four_went : List Going
four_went = drawn 5 ++ record { entry = ticks 0 10 [] [] [] (map (λ n. Data (full n)) (count_up 1 4)); goes = map (λ n. classed New (Data (full n))) (count_up 1 4) } ∷ []

behind_the_fifth : map (admits_draw (in_roster 0 2 4204) 0 four_went 1024) (262759 ∷ 262760 ∷ []) ≡ false ∷ true ∷ []
behind_the_fifth = refl

made_later : admits_draw (in_roster 0 2 4204) 262760 four_went 1024 0 ≡ true
made_later = refl

-- a request or a repair for the page shown is ahead, 28 bytes of it before 28 of new data and 28 of the draw; one for another page isn't
abbrev short : Drawop
short = drawop_of 2 11 (98 ∷ [])

abbrev answered : List Entry → List Going
answered shows =
    drawn 1 ++ record { entry = ticks 0 10 [] [] [] (Data (full 1) ∷ []); goes = classed New (Data (full 1)) ∷ [] } ∷ idle (draws 0 11 short) ∷ map idle (shows ++ ticks 0 13 [] (short.name ∷ []) [] [] ∷ [])

answers_are_ahead : map (admits_draw (in_roster 0 2 1051) 0 (answered []) 1) (10509 ∷ 10510 ∷ []) ≡ false ∷ true ∷ []
answers_are_ahead = refl

those_for_others_are_not : map (admits_draw (in_roster 0 2 1051) 0 (answered (entry 0 12 (Showed elsewhere) (quiet Active) ∷ [])) 1) (7009 ∷ 7010 ∷ []) ≡ false ∷ true ∷ []
those_for_others_are_not = refl
