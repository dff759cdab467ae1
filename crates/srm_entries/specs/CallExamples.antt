-- The definitions at worked examples: moments, new pages, bytes, session messages, farewells, and what waits while a member leaves.
use Rattle.std.specs.Prelude.{◌≡◌, ℕ, ◌+◌, List, [], ◌∷◌, ◌++◌, map, replicate, true, false, Some, None, refl}
use Rattle.std.proofs.Common.{arith}
use Rattle.srm_names.specs.declared.page.Page.{Page}
use Rattle.srm_names.specs.Histories.{count_up}
use Rattle.srm_names.specs.Names.{first_page, named, stream_on}
use Rattle.srm_codec.specs.declared.datagram.Datagram.{Datagram}
use Rattle.srm_codec.specs.declared.datagram.Datagram.TheVariants.{Data, Request, Repair, Session}
use Rattle.srm_codec.specs.declared.fault.DecodeFault.TheVariants as decoding
use Rattle.srm_codec.specs.Spelling.{length_of}
use Rattle.srm_codec.specs.Judging.{judge, magic_at, prefix_at}
use Rattle.srm_bucket.specs.declared.class.Class.TheVariants.{New, Other}
use Rattle.srm_entries.specs.Configs.{Config}
use Rattle.srm_entries.specs.declared.entry.Entry.{Entry}
use Rattle.srm_entries.specs.declared.state.AgentState.TheVariants.{Active, Leaving, Gone}
use Rattle.srm_entries.specs.declared.cause.Cause.TheVariants as causes
use Rattle.srm_entries.specs.declared.fault.AgentFault.TheVariants as faults
use Rattle.srm_entries.specs.declared.entry.Input.TheVariants.{Drew, Heard, Noise, Ticked, Showed, AskedLeave}
use Rattle.srm_entries.specs.declared.entry.Verdict.TheVariants.{Done, Ignored, Refused}
use Rattle.srm_entries.specs.Entries.{last_moment, shown, slots, held_at}
use Rattle.srm_entries.specs.Verdicts.{verdict_of, final, VerdictRight}
use Rattle.srm_entries.specs.Sessions.{session_message_due, session_due, echoes_owed, expected_row, members_remaining}
use Rattle.srm_entries.specs.Bucket.{classed, due_item, idle}
use Rattle.srm_entries.specs.Hearing.{bytes_heard}
use Rattle.srm_entries.specs.Promises.{page_to_come}
use Rattle.srm_entries.specs.Runs.{MomentRight, expected_drawop}
use Rattle.srm_entries.specs.Sample.{in_roster, first_stream, drawop_of, quiet, entry, draws, hears, ticks, let_go, full, trio, known_three}

abbrev page : ℕ → ℕ → Page
page creator number = record { creator = creator; number = number }

-- a draw that is asked for at a moment before the last one counts as made at the last
abbrev ticked_once : List Entry
ticked_once = ticks 0 1000 [] [] [] [] ∷ []

last_counts : last_moment 0 ticked_once ≡ 1000
last_counts = refl

stamped_with_it : expected_drawop (trio 0) ticked_once 1000 (Some (Drew first_page [])) ≡ Some (drawop_of 1 1000 [])
stamped_with_it = refl

not_before_it : MomentRight (trio 0) 0 ticked_once (draws 0 500 (drawop_of 1 500 [])) → ⊥
not_before_it early = absurd (omega arith)

-- what is refused doesn't move the clock, what is ignored does
abbrev refused_late : Entry
refused_late = record (entry 0 9000 (Drew first_page (replicate 1025 0)) (quiet Active)) { verdict = Refused faults.BodyLong }

abbrev ignored_late : Entry
ignored_late = record (entry 0 9000 (Heard (Data (drawop_of 1 0 []))) (quiet Active)) { verdict = Ignored causes.Own }

refusals_dont_count : last_moment 0 (ticked_once ++ refused_late ∷ []) ≡ 1000
refusals_dont_count = refl

ignored_ones_count : last_moment 0 (ticked_once ++ ignored_late ∷ []) ≡ 9000
ignored_ones_count = refl

-- new pages: one more than the greatest number of the member's pages in the table
abbrev drawn_on_page : Page → ℕ → Entry
drawn_on_page p me = draws me 1 (record { name = named (stream_on me p) 1; stamp = 1; body = [] })

first_own_page : map (λ me. page_to_come (trio me) []) (2 ∷ 0 ∷ []) ≡ Some (page 2 0) ∷ Some (page 0 1) ∷ []
first_own_page = refl

next_own_page : page_to_come (trio 2) (drawn_on_page (page 2 0) 2 ∷ drawn_on_page (page 1 7) 2 ∷ []) ≡ Some (page 2 1)
next_own_page = refl

no_page_past_the_last : page_to_come (trio 2) (drawn_on_page (page 2 65535) 2 ∷ []) ≡ None
no_page_past_the_last = refl

no_page_in_a_full_table : page_to_come (trio 2) (map (λ k. drawn_on_page (page 2 k) 2) (count_up 0 7)) ≡ None
no_page_in_a_full_table = refl

-- the page shown, and the table, by slot
abbrev shows_another : Entry
shows_another = entry 0 2 (Showed (page 1 3)) (quiet Active)

shown_now : map shown ([] ∷ (shows_another ∷ []) ∷ []) ≡ first_page ∷ page 1 3 ∷ []
shown_now = refl

in_the_next_slot : slots (shows_another ∷ draws 0 3 (drawop_of 1 3 []) ∷ drawn_on_page (page 2 0) 0 ∷ []) ≡ first_page ∷ page 1 3 ∷ page 2 0 ∷ []
in_the_next_slot = refl

-- the class of a request is by the page shown when it is handed in
other_class : map (λ p. (due_item p (Request 0 (named first_stream 1) 0)).class) (page 1 3 ∷ []) ≡ Other ∷ []
other_class = refl

-- bytes: noise with its fault, the datagram that they spell, and noise to a gone member
noise_of_bytes : bytes_heard (trio 1) [] (replicate 4096 255) ≡ (Noise, Ignored (causes.Decode decoding.Magic))
unfolding judge magic_at prefix_at
noise_of_bytes = refl

no_bytes : bytes_heard (trio 1) [] [] ≡ (Noise, Ignored (causes.Decode decoding.Short))
unfolding judge magic_at prefix_at
no_bytes = refl

noise_right : VerdictRight (trio 1) [] Noise (Ignored (causes.Decode decoding.Magic))
noise_right = (decoding.Magic, (λ e. absurd (grind arith)), refl)

abbrev gone : List Entry
gone = entry 0 20 AskedLeave (quiet Leaving) ∷ entry 0 21 Ticked (record (quiet Gone) { outs = Session 0 21 true first_page [] [] ∷ [] }) ∷ []

noise_when_gone : bytes_heard (trio 0) gone (replicate 4096 255) ≡ (Noise, Ignored causes.Gone)
noise_when_gone = refl

-- refusals, the first that holds
refusals : map (verdict_of (trio 0) gone) (Drew first_page (replicate 1025 0) ∷ Showed first_page ∷ AskedLeave ∷ Ticked ∷ []) ≡ Refused faults.Gone ∷ Refused faults.Gone ∷ Refused faults.Gone ∷ Done ∷ []
refusals = refl

-- an ignored farewell settles nothing, an ignored repair changes nothing
abbrev short_farewell : Datagram
short_farewell = Session 0 5 true first_page (named first_stream 2 ∷ []) []

no_finals : final (known_three ++ record (hears 1 2 short_farewell []) { verdict = Ignored causes.BeyondFinal } ∷ []) first_stream ≡ None
no_finals = refl

first_body_stays : held_at (hears 1 1 (Data (drawop_of 1 0 (104 ∷ 105 ∷ []))) [] ∷ record (hears 1 2 (Repair 2 (drawop_of 1 0 (104 ∷ 111 ∷ []))) []) { verdict = Ignored causes.Conflict } ∷ []) (named first_stream 1)
    ≡ Some (drawop_of 1 0 (104 ∷ 105 ∷ []))
first_body_stays = refl

-- a page named by a session message's rows takes a slot, the page shown in it doesn't
rows_name_pages : slots (hears 1 1 (Session 0 1 false (page 5 5) (named (stream_on 0 (page 0 1)) 2 ∷ []) []) [] ∷ []) ≡ first_page ∷ page 0 1 ∷ []
rows_name_pages = refl

-- sixteen members, all heard: 406 bytes, and a long pause
abbrev of_sixteen : List Entry
of_sixteen = map (λ m. hears 0 1 (Session m 1 false first_page (named (stream_on m first_page) 1 ∷ []) []) []) (count_up 1 15)

abbrev message_of_sixteen : Datagram
message_of_sixteen = Session 0 1000000 false first_page (map (λ m. named (stream_on m first_page) 1) (count_up 0 16)) (echoes_owed (in_roster 0 16 4204) of_sixteen 1000000)

length_of_sixteen : length_of message_of_sixteen ≡ 406
length_of_sixteen = refl

interval_of_sixteen : session_due (in_roster 0 16 4204) 0 (of_sixteen ++ ticks 0 1000000 [] [] [] (message_of_sixteen ∷ []) ∷ []) ≡ 1000000 + 16240000
interval_of_sixteen = refl

-- a member that left counts no more, and gets no echo
abbrev one_left : List Entry
one_left = of_sixteen ++ hears 0 2 (Session 3 2 true first_page (named (stream_on 3 first_page) 1 ∷ []) []) [] ∷ []

fifteen_left : members_remaining (in_roster 0 16 4204) one_left ≡ 15
fifteen_left = refl

no_echo_to_it : map (λ e. e.member) (echoes_owed (in_roster 0 16 4204) one_left 5) ≡ 1 ∷ 2 ∷ count_up 4 12
no_echo_to_it = refl

-- rows: of the page shown in a session_message, of the member's streams on all pages in a farewell
abbrev drew_on_two : List Entry
drew_on_two = drawn_on_page first_page 0 ∷ drawn_on_page (page 1 3) 0 ∷ hears 0 2 (Data (record { name = named (stream_on 1 first_page) 4; stamp = 0; body = [] })) [] ∷ []

rows_of_a_message : map (expected_row (trio 0) drew_on_two false) (first_stream ∷ stream_on 1 first_page ∷ stream_on 0 (page 1 3) ∷ stream_on 2 first_page ∷ []) ≡ Some 1 ∷ Some 4 ∷ None ∷ None ∷ []
rows_of_a_message = refl

rows_of_a_farewell : map (expected_row (trio 0) drew_on_two true) (first_stream ∷ stream_on 1 first_page ∷ stream_on 0 (page 1 3) ∷ stream_on 2 first_page ∷ []) ≡ Some 1 ∷ None ∷ Some 1 ∷ None ∷ []
rows_of_a_farewell = refl

-- a leaving member whose data waits sends an ordinary session message when it is due
abbrev slow : Config
slow = record (in_roster 0 1 1051) { rate = 1 }

abbrev waits_leaving : List Entry
waits_leaving = draws 0 1 (full 1) ∷ draws 0 1 (full 2) ∷ ticks 0 10 [] [] [] (Data (full 1) ∷ []) ∷ entry 0 11 AskedLeave (quiet Leaving) ∷ []

ordinary_message : map (λ now. session_message_due slow 0 waits_leaving (entry 0 now Ticked (quiet Leaving))) (999999 ∷ 1000000 ∷ []) ≡ None ∷ Some false ∷ []
ordinary_message = refl

-- its second drawop waits for 1,051 seconds
waits_so_long : map (λ now. let_go slow (map idle (draws 0 1 (full 1) ∷ draws 0 1 (full 2) ∷ [])
    ++ record { entry = ticks 0 10 [] [] [] (Data (full 1) ∷ []); goes = classed New (Data (full 1)) ∷ [] } ∷ idle (entry 0 now Ticked (quiet Active)) ∷ [])) (1051000009 ∷ 1051000010 ∷ [])
    ≡ (Some (classed New (Data (full 1))) ∷ None ∷ None ∷ []) ∷ (Some (classed New (Data (full 1))) ∷ None ∷ Some (classed New (Data (full 2))) ∷ []) ∷ []
waits_so_long = refl
