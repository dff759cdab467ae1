-- Whom a board's server answers, what a tab is told, and what is missing, in examples.
use Rattle.std.specs.Prelude.{◌≡◌, ℕ, true, false, List, [], ◌∷◌, length, replicate, slice_index, Some, None, codes, refl}
use Rattle.std.proofs.Common.{ap, ◌∙◌, arith, inl, inr}
use Rattle.srm_names.specs.FullName.{FullName}
use Rattle.srm_names.specs.Names.{named, stream_on, first_page}
use Rattle.srm_slate.specs.declared.asked.Method.{Method}
use Rattle.srm_slate.specs.declared.asked.Method.TheVariants.{Get, Post, Other}
use Rattle.srm_slate.specs.declared.guard.Wish.TheVariants as wish
use Rattle.srm_slate.specs.declared.guard.Judged.TheVariants.{Granted, Misdirected, Unknown, Foreign}
use Rattle.srm_slate.specs.Guards.{Server, Asking, judged}
use Rattle.srm_names.specs.declared.page_msg.PageMsg.TheVariants.{Left}
use Rattle.srm_slate.specs.declared.happening.Happening.TheVariants.{Gained}
use Rattle.srm_slate.specs.declared.hole.Hole.{Hole}
use Rattle.srm_slate.specs.declared.taken.Taken.{Taken}
use Rattle.srm_slate.specs.Happenings.{newest}
use Rattle.hex.specs.Hex.{encode_lower, encode_with}
use Rattle.srm_slate.specs.Tokens.{IsToken}
use Rattle.srm_slate.specs.RecordView.{RecordView}
use Rattle.srm_slate.specs.Showing.{IsFront, Passes, of_slot}
use Rattle.srm_slate.specs.Slates.{blank, told_from, with_missing, gained, heard_from}

abbrev board : Server
board = record { hosts = codes "127.0.0.1:8080" ∷ codes "localhost:8080" ∷ []; is_anywhere = false; root = codes "/k3/" }

-- as the board's own page asks
abbrev page : Method → List ℕ → Asking
page method path = record { method = method; path = path; host = Some (codes "localhost:8080"); site = Some (codes "same-origin"); origin = Some (codes "http://localhost:8080"); is_marked = true }

its_own_page_draws : judged board (page Post (codes "/k3/draw")) ≡ Granted wish.Draw
its_own_page_draws = refl

it_asks_without_an_origin : judged board (record (page Get (codes "/k3/told")) { origin = None; site = None }) ≡ Granted wish.Told
it_asks_without_an_origin = refl

but_does_not_draw_so : judged board (record (page Post (codes "/k3/draw")) { origin = None }) ≡ Foreign
but_does_not_draw_so = refl

who_knows_the_address_sees_the_page : judged board (record (page Get (codes "/k3/")) { is_marked = false; origin = None; site = Some (codes "none") }) ≡ Granted wish.Page
who_knows_the_address_sees_the_page = refl

without_the_token_there_is_nothing : judged board (page Get (codes "/")) ≡ Unknown
without_the_token_there_is_nothing = refl

with_another_token_there_is_nothing : judged board (page Post (codes "/k4/draw")) ≡ Unknown
with_another_token_there_is_nothing = refl

a_name_that_was_turned_here : judged board (record (page Get (codes "/k3/")) { host = Some (codes "evil.example:8080") }) ≡ Misdirected
a_name_that_was_turned_here = refl

no_name : judged board (record (page Get (codes "/k3/")) { host = None }) ≡ Misdirected
no_name = refl

a_page_of_another_site : judged board (record (page Post (codes "/k3/draw")) { origin = Some (codes "http://evil.example") }) ≡ Foreign
a_page_of_another_site = refl

a_page_of_another_port : judged board (record (page Get (codes "/k3/told")) { site = Some (codes "same-site") }) ≡ Foreign
a_page_of_another_port = refl

a_form : judged board (record (page Post (codes "/k3/leave")) { is_marked = false }) ≡ Foreign
a_form = refl

-- as the board's own page opens a WebSocket
abbrev websocket : Asking
websocket = record (page Get (codes "/k3/live")) { is_marked = false }

its_own_page_watches : judged board websocket ≡ Granted wish.Live
its_own_page_watches = refl

by_an_older_browser_too : judged board (record websocket { site = None }) ≡ Granted wish.Live
by_an_older_browser_too = refl

no_websocket_without_an_origin : judged board (record websocket { origin = None; is_marked = true }) ≡ Foreign
no_websocket_without_an_origin = refl

no_websocket_of_another_site : judged board (record websocket { origin = Some (codes "http://evil.example") }) ≡ Foreign
no_websocket_of_another_site = refl

no_websocket_of_another_port : judged board (record websocket { site = Some (codes "same-site") }) ≡ Foreign
no_websocket_of_another_port = refl

no_websocket_without_the_token : judged board (record websocket { path = codes "/live" }) ≡ Unknown
no_websocket_without_the_token = refl

nothing_is_drawn_by_asking : judged board (page Get (codes "/k3/draw")) ≡ Unknown
nothing_is_drawn_by_asking = refl

a_question_before : judged board (page Other (codes "/k3/draw")) ≡ Unknown
a_question_before = refl

by_another_name_of_the_machine : judged (record board { is_anywhere = true }) (record (page Post (codes "/k3/draw")) { host = Some (codes "10.0.0.3:8080"); origin = Some (codes "http://10.0.0.3:8080") }) ≡ Granted wish.Draw
by_another_name_of_the_machine = refl

a_page_of_another_name : judged (record board { is_anywhere = true }) (record (page Post (codes "/k3/draw")) { host = Some (codes "10.0.0.3:8080") }) ≡ Foreign
a_page_of_another_name = refl

abbrev left : ℕ → Taken
left source = record { slot = 0; message = Left source }

-- the worker of this page slot took the same
abbrev left_at : ℕ → ℕ → Taken
left_at slot source = record { slot = slot; message = Left source }

a_front_is_shown : IsFront true (left 1 ∷ []) (left 1 ∷ left 2 ∷ [])
a_front_is_shown = record { front = (left 2 ∷ [], refl); whole = λ lossless. let k : true ≡ false = lossless in cc }

what_nobody_took_is_no_front : IsFront true (left 1 ∷ []) [] → ⊥
what_nobody_took_is_no_front front = let same : left 1 ∷ front.front.0 ≡ [] = front.front.1 in cc

without_a_loss_a_front_is_not_enough : IsFront false (left 1 ∷ []) (left 1 ∷ left 2 ∷ []) → ⊥
without_a_loss_a_front_is_not_enough front = let same : left 1 ∷ [] ≡ left 1 ∷ left 2 ∷ [] = front.whole refl in cc

a_message_is_kept : Passes (left 1) blank (record blank { taken = left 1 ∷ [] })
a_message_is_kept = inl (refl, refl)

or_it_is_lost_and_told_so : Passes (left 1) blank (record blank { is_lossy = true })
or_it_is_lost_and_told_so = inr refl

it_is_not_lost_in_silence : Passes (left 1) blank blank → ⊥
it_is_not_lost_in_silence (inl (whole, kept)) = let same : [] ≡ left 1 ∷ [] = ap (λ (r : RecordView). r.taken) kept in cc
it_is_not_lost_in_silence (inr lost) = let same : false ≡ true = ap (λ (r : RecordView). r.is_lossy) lost in cc

of_one_page_slot : of_slot 3 (left_at 3 1 ∷ left_at 4 2 ∷ left_at 3 5 ∷ []) ≡ Left 1 ∷ Left 5 ∷ []
of_one_page_slot = refl

from_the_first : told_from 0 (left 1 ∷ left 2 ∷ []) ≡ left 1 ∷ left 2 ∷ []
from_the_first = refl

what_is_behind : told_from 1 (left 1 ∷ left 2 ∷ []) ≡ left 2 ∷ []
what_is_behind = refl

who_has_all_is_told_nothing : told_from 2 (left 1 ∷ left 2 ∷ []) ≡ []
who_has_all_is_told_nothing = refl

so_is_who_asks_for_later_ones : told_from 7 (left 1 ∷ left 2 ∷ []) ≡ []
so_is_who_asks_for_later_ones = refl

a_hundred_at_once : length (told_from 1 (replicate 102 (left 1))) ≡ 100
a_hundred_at_once = refl

-- the drawop with this number of member 1 on the first page
abbrev drawop : ℕ → FullName
drawop number = named (stream_on 1 first_page) number

abbrev hole : ℕ → Hole
hole number = record { name = drawop number; reach = 9 }

the_member_misses_two : (with_missing 2 (hole 5 ∷ hole 7 ∷ []) blank).holes ≡ hole 5 ∷ hole 7 ∷ []
the_member_misses_two = refl

of_many_the_first_are_named : length (with_missing 5000 (replicate 65 (hole 5)) blank).holes ≡ 64
of_many_the_first_are_named = refl

and_all_are_counted : (with_missing 5000 (replicate 65 (hole 5)) blank).missing ≡ 5000
and_all_are_counted = refl

then_it_misses_none : with_missing 0 [] (with_missing 2 (hole 5 ∷ hole 7 ∷ []) blank) ≡ blank
then_it_misses_none = refl

the_last_two : newest {X = ℕ} 2 (1 ∷ 2 ∷ 3 ∷ []) ≡ 2 ∷ 3 ∷ []
the_last_two = refl

there_are_not_so_many : newest {X = ℕ} 4 (1 ∷ 2 ∷ 3 ∷ []) ≡ 1 ∷ 2 ∷ 3 ∷ []
there_are_not_so_many = refl

what_is_shown_as_missing_comes : (gained (drawop 7) 2 (with_missing 2 (hole 5 ∷ hole 7 ∷ []) blank)).happenings.kept ≡ Gained (drawop 7) 2 ∷ []
what_is_shown_as_missing_comes = refl

and_is_shown_until_the_member_answers_again : (gained (drawop 7) 2 (with_missing 2 (hole 5 ∷ hole 7 ∷ []) blank)).missing ≡ 2
and_is_shown_until_the_member_answers_again = refl

what_is_not_shown_as_missing_is_no_news : gained (drawop 6) 2 (with_missing 2 (hole 5 ∷ hole 7 ∷ []) blank) ≡ with_missing 2 (hole 5 ∷ hole 7 ∷ []) blank
what_is_not_shown_as_missing_is_no_news = refl

a_datagram_counts_for_who_sent_it : (heard_from 1 (heard_from 1 blank)).heard ≡ 0 ∷ 2 ∷ replicate 30 0
a_datagram_counts_for_who_sent_it = refl

and_for_all_that_came : (heard_from 2 (heard_from 1 blank)).counts.came ≡ 2
and_for_all_that_came = refl

-- a source that gives sixteen times the byte 7 makes a token of them, and no other
abbrev Sevens : List ℕ → Type 0
Sevens bytes = bytes ≡ replicate 16 7

a_token_of_sevens : IsToken Sevens (codes "07070707070707070707070707070707")
unfolding encode_with
a_token_of_sevens = (replicate 16 7, refl, refl, refl)

no_token_of_eights : IsToken Sevens (codes "08080808080808080808080808080808") → ⊥
unfolding encode_with
no_token_of_eights (bytes, sevens, many, is) =
    let same : codes "08080808080808080808080808080808" ≡ codes "07070707070707070707070707070707" = is ∙ ap encode_lower sevens in
    let digit : 56 ≡ 55 = ap (λ text. slice_index text 1) same in
    absurd (omega (arith, digit))
