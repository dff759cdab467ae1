-- What is drawn of a text as it is typed, what its commands are, and what is printed of a body.
use Rattle.std.specs.Prelude.{◌≡◌, true, false, [], ◌∷◌, ◌++◌, length, map, replicate, refl, codes, Option, Some, None, Ok, Err}
use Rattle.std.proofs.Common.{inl, inr, ⊎_elim, ap}
use Rattle.srm_names.specs.declared.page.Page.{Page}
use Rattle.srm_names.specs.Names.{first_page, named, stream_on}
use Rattle.srm_live.specs.declared.command.Command.TheVariants.{Show, Begin, Pages, Who, Leave, Help}
use Rattle.srm_live.specs.declared.typed.Typed.TheVariants.{Stroke, TooLong, Order}
use Rattle.bstr.specs.Utf8.{pieces_from}
use Rattle.srm_live.specs.Commands.{said_of, page_in}
use Rattle.srm_live.specs.Readable.{readable_text}
use Rattle.srm_live.specs.Claims.{claims_of, is_beyond}
use Rattle.srm_codec.specs.declared.datagram.Datagram.TheVariants.{Session}
use Rattle.srm_codec.specs.declared.fault.DecodeFault.TheVariants as decoding
use Rattle.srm_entries.specs.declared.cause.Cause.TheVariants.{Decode, Stranger}
use Rattle.srm_entries.specs.declared.entry.Verdict.TheVariants.{Ignored}
use Rattle.srm_live.specs.declared.signs.Sign.TheVariants.{OtherSession, TooLong}
use Rattle.srm_live.specs.Signs.{sign_of, is_unheard}
use Rattle.srm_live.specs.declared.presence.Standing.TheVariants.{Here, Left, Silent}
use Rattle.srm_live.specs.News.{news_of}
use Rattle.srm_control.specs.declared.command.PageCommand.TheVariants as commands
use Rattle.srm_control.specs.declared.command.PageRefusal.TheVariants.{NoSlot}
use Rattle.srm_control.specs.declared.command.PageAnswer.{PageAnswer}
use Rattle.srm_live.specs.Asking.{Answers, Place, answer_to, same_command, asked_by, AreAmong, begins, begins_in}
use Rattle.srm_live.specs.Typing.{said_by, strokes_by, strokes_in, asked_in, with_byte, typed_of, line_after}

abbrev page_of_one : Page
page_of_one = record { creator = 1; number = 2 }

abbrev at_first : Option Place
at_first = Some (record { page = first_page; answers = [] })

what_is_drawn_of_a_text : strokes_in first_page [] (97 ∷ 10 ∷ 10 ∷ 98 ∷ []) ≡ (first_page, 97 ∷ []) ∷ (first_page, []) ∷ (first_page, 98 ∷ []) ∷ []
what_is_drawn_of_a_text = refl

a_line_that_is_too_long_is_left_out : strokes_by at_first (said_by ((97 ∷ []) ∷ replicate 1025 99 ∷ (98 ∷ []) ∷ [])) ≡ (first_page, 97 ∷ []) ∷ (first_page, 98 ∷ []) ∷ []
a_line_that_is_too_long_is_left_out = refl

the_longest_line_is_drawn : map (λ d. length d.1) (strokes_by at_first (said_by (replicate 1024 99 ∷ []))) ≡ 1024 ∷ []
the_longest_line_is_drawn = refl

a_byte_more : with_byte 98 (record { number = 3; page = first_page; kept = 97 ∷ [] }) ≡ record { number = 3; page = first_page; kept = 97 ∷ 98 ∷ [] }
a_byte_more = refl

a_byte_too_many_is_kept_once : length ((with_byte 99 (with_byte 99 (record { number = 3; page = first_page; kept = replicate 1024 99 }))).kept) ≡ 1025
a_byte_too_many_is_kept_once = refl

a_line_ends : typed_of (record { number = 3; page = first_page; kept = 97 ∷ 98 ∷ [] }) ≡ Stroke (97 ∷ 98 ∷ [])
a_line_ends = refl

a_line_that_is_too_long_ends : typed_of (record { number = 3; page = first_page; kept = replicate 1025 99 }) ≡ TooLong 3
a_line_that_is_too_long_ends = refl

the_next_line : line_after (record { number = 3; page = page_of_one; kept = 97 ∷ [] }) ≡ record { number = 4; page = page_of_one; kept = [] }
the_next_line = refl

a_command_is_not_drawn : strokes_in first_page [] (codes "/who" ++ 10 ∷ codes "a") ≡ (first_page, codes "a") ∷ []
a_command_is_not_drawn = refl

two_slashes_draw_one : said_of (codes "//who") ≡ Stroke (codes "/who")
two_slashes_draw_one = refl

commands_are_whole_words : map said_of (codes "/new" ∷ codes "/pages" ∷ codes "/who" ∷ codes "/leave" ∷ codes "/help" ∷ codes "/whom" ∷ codes "/" ∷ codes "/ who" ∷ [])
    ≡ Order (Some Begin) ∷ Order (Some Pages) ∷ Order (Some Who) ∷ Order (Some Leave) ∷ Order (Some Help) ∷ Order None ∷ Order None ∷ Order None ∷ []
commands_are_whole_words = refl

a_slash_elsewhere_is_drawn : said_of (codes "a/who") ≡ Stroke (codes "a/who")
a_slash_elsewhere_is_drawn = refl

a_page_is_named : said_of (codes "/page 1.2") ≡ Order (Some (Show page_of_one))
a_page_is_named = refl

what_is_no_page : map page_in (codes "" ∷ codes "1" ∷ codes "1." ∷ codes ".2" ∷ codes "1.2.3" ∷ codes "32.0" ∷ codes "1.65536" ∷ codes "a.2" ∷ codes "1.-2" ∷ []) ≡ None ∷ None ∷ None ∷ None ∷ None ∷ None ∷ None ∷ None ∷ None ∷ []
what_is_no_page = refl

the_last_page_of_all : page_in (codes "31.65535") ≡ Some (record { creator = 31; number = 65535 })
the_last_page_of_all = refl

-- PAGES

abbrev shown_one : Answers
shown_one = answer_to (commands.Show page_of_one) (Ok page_of_one) ∷ []

abbrev begun_one : Answers
begun_one = answer_to commands.Begin (Ok page_of_one) ∷ []

abbrev refused_first : Answers
refused_first = answer_to (commands.Show first_page) (Err NoSlot) ∷ []

-- a stroke, a page that is shown, a stroke there, one that is refused, and a stroke where it was
pages_that_are_shown_and_refused : strokes_in first_page (shown_one ++ refused_first) (codes "a" ++ 10 ∷ codes "/page 1.2" ++ 10 ∷ codes "b" ++ 10 ∷ codes "/page 0.0" ++ 10 ∷ codes "c")
    ≡ (first_page, codes "a") ∷ (page_of_one, codes "b") ∷ (page_of_one, codes "c") ∷ []
pages_that_are_shown_and_refused = refl

a_page_that_is_begun : strokes_in first_page begun_one (codes "/new" ++ 10 ∷ codes "b") ≡ (page_of_one, codes "b") ∷ []
a_page_that_is_begun = refl

-- a member that is to leave draws nothing more, and asks for nothing
nothing_is_said_behind_leave : said_by (codes "a" ∷ codes "/leave" ∷ codes "b" ∷ codes "/new" ∷ []) ≡ Stroke (codes "a") ∷ []
nothing_is_said_behind_leave = refl

nothing_is_drawn_behind_leave : strokes_in first_page [] (codes "a" ++ 10 ∷ codes "/leave" ++ 10 ∷ codes "b") ≡ (first_page, codes "a") ∷ []
nothing_is_drawn_behind_leave = refl

what_a_text_asks_for : asked_in (codes "/page 1.2" ++ 10 ∷ codes "a" ++ 10 ∷ codes "/who" ++ 10 ∷ codes "/new" ++ 10 ∷ codes "/leave" ++ 10 ∷ codes "/new") ≡ commands.Show page_of_one ∷ commands.Begin ∷ []
what_a_text_asks_for = refl

-- without an answer, or with one to another command
nothing_is_drawn_behind_a_command_without_its_answer : strokes_in first_page [] (codes "a" ++ 10 ∷ codes "/new" ++ 10 ∷ codes "b") ≡ (first_page, codes "a") ∷ []
nothing_is_drawn_behind_a_command_without_its_answer = refl

nothing_is_drawn_behind_another_answer : strokes_in first_page shown_one (codes "a" ++ 10 ∷ codes "/new" ++ 10 ∷ codes "b") ≡ (first_page, codes "a") ∷ []
nothing_is_drawn_behind_another_answer = refl

other_commands_ask_for_nothing : map (λ l. asked_by (said_of l)) (codes "/who" ∷ codes "/pages" ∷ codes "/leave" ∷ codes "a" ∷ codes "/page x" ∷ []) ≡ None ∷ None ∷ None ∷ None ∷ None ∷ []
other_commands_ask_for_nothing = refl

commands_are_told_apart : map (same_command (commands.Show page_of_one)) (commands.Show page_of_one ∷ commands.Show first_page ∷ commands.Begin ∷ []) ≡ true ∷ false ∷ false ∷ []
commands_are_told_apart = refl

-- an answer that stands behind another one, and two in their order
one_among_two : AreAmong begun_one (shown_one ++ begun_one)
one_among_two = inr (inl (refl, tt))

two_among_two : AreAmong (shown_one ++ begun_one) (shown_one ++ begun_one)
two_among_two = inl (refl, inl (refl, tt))

-- not one that isn't there
not_among_none : AreAmong begun_one [] → ⊥
not_among_none h = h

-- not twice what is there once
not_twice : AreAmong (begun_one ++ begun_one) (shown_one ++ begun_one) → ⊥
not_twice h = ⊎_elim (λ p. not_shown p.0) (λ p. ⊎_elim (λ q. q.1) (λ q. q) p) h
  where
    not_shown : answer_to commands.Begin (Ok page_of_one) ≡ answer_to (commands.Show page_of_one) (Ok page_of_one) → ⊥
    not_shown same = let is : commands.Begin ≡ commands.Show page_of_one = ap (λ (a : PageAnswer). a.command) same in cc

pages_that_begin_are_counted : begins (commands.Begin ∷ commands.Show page_of_one ∷ commands.Begin ∷ []) ≡ 2
pages_that_begin_are_counted = refl

pages_that_answers_begin_are_counted : begins_in (shown_one ++ begun_one) ≡ 1
pages_that_answers_begin_are_counted = refl

-- BODIES

an_escape_and_a_wild_byte_are_question_marks : readable_text (97 ∷ 0xC3 ∷ 0xA9 ∷ 27 ∷ 0xFF ∷ 98 ∷ []) ≡ 97 ∷ 0xC3 ∷ 0xA9 ∷ 63 ∷ 63 ∷ 98 ∷ []
unfolding pieces_from lib.Utf8.encode
an_escape_and_a_wild_byte_are_question_marks = refl

-- AN EARLIER RUN

-- of rows of members 0 and 1, that of member 1 is its own
the_own_rows : claims_of 1 (Session 0 5 false first_page (named (stream_on 0 first_page) 3 ∷ named (stream_on 1 first_page) 2 ∷ []) []) ≡ named (stream_on 1 first_page) 2 ∷ []
the_own_rows = refl

-- and is above what a member knows that did nothing yet
above_nothing : is_beyond [] (named (stream_on 1 first_page) 1) ≡ true
above_nothing = refl

-- NEWS

who_is_heard_after_silence_is_here_again : news_of Silent Here ≡ Some (codes "is here again")
who_is_heard_after_silence_is_here_again = refl

who_left_is_not_here_again : news_of Left Here ≡ None
who_left_is_not_here_again = refl

-- SIGNS

what_noise_tells : map sign_of (Ignored (Decode decoding.Session) ∷ Ignored (Decode decoding.Length) ∷ Ignored (Decode decoding.Magic) ∷ Ignored Stranger ∷ []) ≡ Some OtherSession ∷ Some TooLong ∷ None ∷ None ∷ []
what_noise_tells = refl

-- of two members one heard nobody, just before ten seconds and then
nobody_is_heard_for_ten_seconds : map (is_unheard 2 0) (9999999 ∷ 10000000 ∷ []) ≡ false ∷ true ∷ []
nobody_is_heard_for_ten_seconds = refl

who_heard_another_is_not_told : is_unheard 2 1 10000000 ≡ false
who_heard_another_is_not_told = refl

who_is_alone_is_not_told : is_unheard 1 0 10000000 ≡ false
who_is_alone_is_not_told = refl
