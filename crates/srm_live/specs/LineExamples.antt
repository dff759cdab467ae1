-- What a live member prints of messages, at worked ones.
use Rattle.std.specs.Prelude.{◌≡◌, true, false, [], ◌∷◌, ◌++◌, codes, refl}
use Rattle.std.specs.Fmt.{digits}
use Rattle.std.proofs.Common.{ap, inl, inr}
use Rattle.bstr.specs.Utf8.{pieces_from}
use Rattle.srm_names.specs.declared.page_msg.PageMsg.TheVariants.{Open, Draw, Left, Close}
use Rattle.srm_live.specs.LiveLines.{live_line, new_printing, failed_printing, PrintingView, PrintsLine}

-- a body with an escape is shown without it, and else the line is as that of a member that isn't live
the_line_of_a_drawop : live_line [] 1 2 (Draw (record { name = record { stream = record { source = 0; page = record { creator = 0; number = 0 } }; number = 7 }; stamp = 5; body = 27 ∷ 97 ∷ [] })) ≡ codes "took 1 2 draw 0 7 ?a" ++ 10 ∷ []
unfolding digits pieces_from lib.Utf8.encode
the_line_of_a_drawop = refl

the_line_of_a_close : live_line [] 1 2 Close ≡ codes "took 1 2 close" ++ 10 ∷ []
unfolding digits
the_line_of_a_close = refl

-- in a room members have names, and pages have numbers, as who types names them
the_line_of_a_drawop_in_a_room : live_line (codes "ada" ∷ codes "grace" ∷ []) 1 2 (Draw (record { name = record { stream = record { source = 0; page = record { creator = 0; number = 0 } }; number = 7 }; stamp = 5; body = 97 ∷ [] })) ≡ codes "took grace 2 draw ada 7 a" ++ 10 ∷ []
unfolding digits pieces_from lib.Utf8.encode
the_line_of_a_drawop_in_a_room = refl

the_line_of_a_page_in_a_room : live_line (codes "ada" ∷ codes "grace" ∷ []) 1 2 (Open (record { creator = 0; number = 3 })) ≡ codes "took grace 2 open 0.3" ++ 10 ∷ []
unfolding digits
the_line_of_a_page_in_a_room = refl

-- who has no name has a number
the_line_of_one_without_a_name : live_line (codes "ada" ∷ codes "grace" ∷ []) 1 2 (Left 5) ≡ codes "took grace 2 left 5" ++ 10 ∷ []
unfolding digits
the_line_of_one_without_a_name = refl

abbrev one_printed : PrintingView
one_printed = record { names = []; me = 1; lines = live_line [] 1 2 Close ∷ []; failed = false }

a_line_is_printed : PrintsLine (new_printing [] 1) 2 Close true one_printed
a_line_is_printed = (refl, inl (refl, refl))

-- a sink that leaves a line out says that it failed
none_is_left_out : PrintsLine (new_printing [] 1) 2 Close true (new_printing [] 1) → ⊥
none_is_left_out (go, inl (going, printed)) = let same : [] ≡ live_line [] 1 2 Close ∷ [] = ap (λ (v : PrintingView). v.lines) printed in cc
none_is_left_out (go, inr failed) = let same : false ≡ true = ap (λ (v : PrintingView). v.failed) failed in cc

-- and prints nothing more
none_is_printed_behind_it : PrintsLine (failed_printing (new_printing [] 1)) 2 Close true one_printed → ⊥
none_is_printed_behind_it (go, inl (going, printed)) = cc
none_is_printed_behind_it (go, inr failed) = let same : false ≡ true = ap (λ (v : PrintingView). v.failed) failed in cc

-- one that printed all doesn't stop its worker
none_is_stopped : PrintsLine (new_printing [] 1) 2 Close false one_printed → ⊥
none_is_stopped (go, printed) = cc

-- and one that couldn't stops it at the close, and not before
the_close_tells_of_it : PrintsLine (new_printing [] 1) 2 Close false (failed_printing (new_printing [] 1))
the_close_tells_of_it = (refl, inr refl)

others_are_taken_first : PrintsLine (new_printing [] 1) 2 (Left 5) true (failed_printing (new_printing [] 1))
others_are_taken_first = (refl, inr refl)
