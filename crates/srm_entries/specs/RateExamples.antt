-- The bucket law over entries, at worked examples.
use Rattle.std.specs.Prelude.{◌≡◌, ◌<◌, List, [], ◌∷◌, ◌++◌, map, Some, None, refl}
use Rattle.std.proofs.Common.{lit<}
use Rattle.srm_names.specs.Histories.{count_up}
use Rattle.srm_codec.specs.declared.datagram.Datagram.{Datagram}
use Rattle.srm_codec.specs.declared.datagram.Datagram.TheVariants.{Data, Repair}
use Rattle.srm_bucket.specs.declared.class.Class.TheVariants.{Shown, New, Other}
use Rattle.srm_bucket.specs.Calls.{Classed}
use Rattle.srm_bucket.specs.Classes.{first_of_highest}
use Rattle.srm_bucket.specs.Ticks.{charge, allowance, level}
use Rattle.srm_entries.specs.declared.entry.Entry.{Entry}
use Rattle.srm_entries.specs.declared.state.AgentState.TheVariants.{Active}
use Rattle.srm_entries.specs.declared.entry.Input.TheVariants.{Showed}
use Rattle.srm_entries.specs.Bucket.{Going, idle, classed, entries_of}
use Rattle.srm_entries.specs.Rates.{of_class, handed_so_far, departed_so_far, queued_of, cost_all, ticks_of}
use Rattle.srm_entries.specs.Sample.{drawop_of, quiet, entry, draws, ticks, full, elsewhere}

-- five data of 1,051 bytes are drawn: four go at once, the fifth 131,375 microseconds later
abbrev drawn : List Going
drawn = map (λ n. idle (draws 0 1 (full n))) (count_up 1 5)

abbrev four_go : Going
four_go = record { entry = ticks 0 10 [] [] [] (map (λ n. Data (full n)) (count_up 1 4)); goes = map (λ n. classed New (Data (full n))) (count_up 1 4) }

abbrev fifth_goes : Going
fifth_goes = record { entry = ticks 0 131385 [] [] [] (Data (full 5) ∷ []); goes = classed New (Data (full 5)) ∷ [] }

abbrev all_gone : List Going
all_gone = drawn ++ four_go ∷ fifth_goes ∷ []

handed_in : handed_so_far 0 (entries_of all_gone) ≡ map (λ n. classed New (Data (full n))) (count_up 1 5)
handed_in = refl

gone_in_order : departed_so_far all_gone ≡ handed_so_far 0 (entries_of all_gone)
gone_in_order = refl

fifth_is_left : first_of_highest (queued_of 0 (drawn ++ four_go ∷ [])) ≡ Some (classed New (Data (full 5)))
fifth_is_left = refl

nothing_is_left : first_of_highest (queued_of 0 all_gone) ≡ None
nothing_is_left = refl

one_costs : cost_all (Data (full 1) ∷ []) ≡ 1051000000
one_costs = refl

charged_by_ticks : map charge (ticks_of (entries_of (drawn ++ four_go ∷ [])) ∷ ticks_of (entries_of all_gone) ∷ []) ≡ 4204000000 ∷ 5255000000 ∷ []
charged_by_ticks = refl

-- both ticks together charge all that the window allows
just_allowed : charge (ticks_of (entries_of all_gone)) ≡ allowance 8000 4204 10 131385
just_allowed = refl

not_sooner : allowance 8000 4204 10 131384 < charge (ticks_of (entries_of all_gone))
not_sooner = lit< tt

tokens_left : map (λ now. level 8000 4204 now (ticks_of (entries_of (drawn ++ four_go ∷ [])))) (10 ∷ 131384 ∷ 131385 ∷ []) ≡ 0 ∷ 1050992000 ∷ 1051000000 ∷ []
tokens_left = refl

-- the classes: new data waits behind a repair for the page shown, and a repair for another page behind both
abbrev answered : List Entry
answered = draws 0 1 (drawop_of 1 1 []) ∷ entry 0 2 (Showed elsewhere) (quiet Active) ∷ ticks 0 3 [] ((drawop_of 1 1 []).name ∷ []) [] [] ∷ []

abbrev handed : List (Classed Datagram)
handed = handed_so_far 0 answered

by_class : map (λ class. of_class class handed) (Shown ∷ New ∷ Other ∷ []) ≡ [] ∷ ((classed New (Data (drawop_of 1 1 []))).item ∷ []) ∷ ((classed Other (Repair 0 (drawop_of 1 1 []))).item ∷ []) ∷ []
by_class = refl
