-- Where in the files a reason stands, in examples.
use Rattle.std.specs.Prelude.{◌≡◌, ℕ, List, [], ◌∷◌, map, codes, slice_get, Some, None, refl}
use Rattle.std.specs.Fmt.{digits}
use Rattle.srm_frames.specs.declared.line.Call.TheVariants.{Ticked, Took, Ended}
use Rattle.srm_frames.specs.declared.line.Line.{Line}
use Rattle.srm_names.specs.declared.page_msg.PageMsg.TheVariants.{Close}
use Rattle.srm_verdicts.specs.Details.{name_of, double_or, line_of_stranger, line_of_double}

abbrev paths : List (List ℕ)
paths = codes "zero" ∷ codes "one" ∷ codes "two" ∷ []

abbrev lines : List Line
lines = record { moment = 10; call = Ticked } ∷ record { moment = 10; call = Took 0 Close } ∷ record { moment = 20; call = Ticked } ∷ record { moment = 20; call = Ended } ∷ []

-- the second tick is call 1, at frame 2; behind all there is no line
names : map (λ place. name_of lines place (slice_get lines place)) (0 ∷ 1 ∷ 2 ∷ 3 ∷ 4 ∷ []) ≡ codes "call 0" ∷ codes "frame 1" ∷ codes "call 1" ∷ codes "frame 3" ∷ codes "frame 4" ∷ []
unfolding digits
names = refl

-- the record at 1 has the next but one behind it for a twin
a_twin : double_or 1 (Some 1) None ≡ Some (1, 3)
a_twin = refl

doubled : line_of_double paths (Some (0, 2)) ≡ codes "zero and two are of one member\n"
doubled = refl

a_stranger : line_of_stranger paths (Some 1) [] ≡ codes "zero and one are of different sessions\n"
a_stranger = refl
