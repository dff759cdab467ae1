-- The definitions at worked examples: verdicts, the bucket, packed requests, session messages, leaving and giving.
use Rattle.std.specs.Prelude.{◌≡◌, ℕ, ◌+◌, ◌<◌, List, [], ◌∷◌, ◌++◌, map, Bool, true, false, Option, Some, None, is_some, refl, replicate, take}
use Rattle.std.proofs.Common.{lit<, lit≤, arith}
use Rattle.srm_names.specs.declared.drawop.Drawop.{Drawop}
use Rattle.srm_names.specs.declared.page_msg.PageMsg.{PageMsg}
use Rattle.srm_names.specs.declared.page_msg.PageMsg.TheVariants.{Open, Draw, Close}
use Rattle.srm_names.specs.Histories.{count_up, IsPrefix}
use Rattle.srm_names.specs.Names.{first_page, named, names_up_to, stream_on}
use Rattle.srm_codec.specs.declared.datagram.Datagram.{Datagram}
use Rattle.srm_codec.specs.declared.datagram.Datagram.TheVariants.{Data, Request, Repair, Session}
use Rattle.srm_codec.specs.Spelling.{bits_set, length_of}
use Rattle.srm_bucket.specs.declared.class.Class.{Class}
use Rattle.srm_bucket.specs.declared.class.Class.TheVariants.{Shown, New, Other}
use Rattle.srm_bucket.specs.Calls.{Classed, BucketCall, Handed, Popped}
use Rattle.srm_bucket.specs.Classes.{rank, departed}
use Rattle.srm_bucket.specs.Classes as bucket
use Rattle.srm_bucket.specs.Law.{may_go, GoesRight as CallRight}
use Rattle.srm_entries.specs.declared.entry.Entry.{Entry}
use Rattle.srm_entries.specs.declared.state.AgentState.TheVariants.{Active, Leaving, Gone}
use Rattle.srm_entries.specs.declared.cause.Cause.TheVariants as causes
use Rattle.srm_entries.specs.declared.fault.AgentFault.TheVariants as faults
use Rattle.srm_entries.specs.declared.entry.Input.TheVariants.{Drew, Heard, Ticked, AskedLeave, Gave}
use Rattle.srm_entries.specs.declared.entry.Verdict.{Verdict}
use Rattle.srm_entries.specs.declared.entry.Verdict.TheVariants.{Done, Ignored, Refused}
use Rattle.srm_entries.specs.Verdicts.{verdict_of}
use Rattle.srm_entries.specs.Sessions.{session_message_due, session_due, echoes_owed}
use Rattle.srm_entries.specs.Packing.{packed}
use Rattle.srm_entries.specs.Bucket.{Going, idle, GoesAsCharged, BucketRight, classed, entries_of, calls_by, bucket_calls}
use Rattle.srm_entries.specs.Giving.{GiveRight, given, is_smallest}
use Rattle.srm_entries.specs.Sample.{in_roster, first_stream, drawop_of, quiet, entry, draws, hears, full, known_three}

-- verdicts at member 1 in a roster of 3
abbrev judged : List Entry → Datagram → Verdict
judged es g = verdict_of (in_roster 1 3 4204) es (Heard g)

abbrev farewell_with : ℕ → Datagram
farewell_with n = Session 0 5 true first_page (named first_stream n ∷ []) []

abbrev of_page : ℕ → ℕ → Drawop
of_page page number = record { name = named (stream_on 0 (record { creator = 0; number = page })) number; stamp = 0; body = [] }

abbrev eight_pages : List Entry
eight_pages = map (λ p. hears 1 1 (Data (of_page p 1)) []) (count_up 1 7)

first_of_all : judged [] (Data (drawop_of 4096 0 [])) ≡ Done
first_of_all = refl

short_farewell : judged known_three (farewell_with 2) ≡ Ignored causes.BeyondFinal
short_farewell = refl

good_farewell : judged known_three (farewell_with 3) ≡ Done
good_farewell = refl

beyond : judged (known_three ++ hears 1 2 (farewell_with 3) [] ∷ []) (Data (drawop_of 4 0 [])) ≡ Ignored causes.BeyondFinal
beyond = refl

stranger : judged [] (Session 2 0 false first_page (named (stream_on 5 first_page) 1 ∷ []) []) ≡ Ignored causes.Stranger
stranger = refl

other_body : judged (draws 1 1 (record { name = named (stream_on 1 first_page) 1; stamp = 1; body = 104 ∷ [] }) ∷ [])
    (Repair 2 (record { name = named (stream_on 1 first_page) 1; stamp = 1; body = 111 ∷ [] })) ≡ Ignored causes.Conflict
other_body = refl

ninth_page : judged eight_pages (Data (of_page 8 1)) ≡ Ignored causes.PageLimit
ninth_page = refl

ninth_and_beyond : judged (eight_pages ++ hears 1 2 (Session 0 5 true first_page (map (λ p. (of_page p 1).name) (count_up 1 7)) []) [] ∷ []) (Data (of_page 8 1)) ≡ Ignored causes.PageLimit
ninth_and_beyond = refl

own_number : judged (draws 1 1 (record { name = named (stream_on 1 first_page) 1; stamp = 1; body = [] }) ∷ []) (Request 2 (named (stream_on 1 first_page) 2) 0) ≡ Ignored causes.BeyondFinal
unfolding bits_set
own_number = refl

long_body : verdict_of (in_roster 1 3 4204) [] (Drew first_page (replicate 1025 0)) ≡ Refused faults.BodyLong
long_body = refl

-- requests are packed: 1, 3 and 33 into one, 34 into another
packs : packed 1 (named first_stream 1 ∷ named first_stream 3 ∷ named first_stream 33 ∷ named first_stream 34 ∷ []) ≡ Request 1 (named first_stream 1) 0x80000002 ∷ Request 1 (named first_stream 34) 0 ∷ []
packs = refl

four_asks : map length_of (packed 1 (names_up_to first_stream 4)) ≡ 21 ∷ []
four_asks = refl

-- five data of 1,051 bytes with a full bucket: the fifth waits for 131,375 microseconds
abbrev data_of : ℕ → Classed Datagram
data_of n = classed New (Data (full n))

abbrev draws_full : ℕ → Going
draws_full n = idle (draws 0 1 (full n))

abbrev five : List Going
five = map draws_full (count_up 1 5)
    ++ record { entry = entry 0 10 Ticked (record (quiet Active) { outs = map (λ n. Data (full n)) (count_up 1 4) }); goes = map data_of (count_up 1 4) } ∷ []

abbrev goes_at : ℕ → ℕ → List Going → ℕ → Bool
goes_at rate depth gs now = is_some (may_go rate depth (bucket_calls 0 gs) now)

waits : map (goes_at 8000 4204 five) (10 ∷ 131384 ∷ 131385 ∷ []) ≡ false ∷ false ∷ true ∷ []
waits = refl

-- a leaver with a small bucket
abbrev first_tick : Going
first_tick = record { entry = entry 0 10 Ticked (record (quiet Active) { outs = Data (full 1) ∷ [] }); goes = data_of 1 ∷ [] }

abbrev two_going : List Going
two_going = draws_full 1 ∷ draws_full 2 ∷ first_tick ∷ idle (entry 0 11 AskedLeave (quiet Leaving)) ∷ []

abbrev two : List Entry
two = entries_of two_going

one_early : goes_at 8000 1051 two_going 131384 ≡ false
one_early = refl

in_time : goes_at 8000 1051 two_going 131385 ≡ true
in_time = refl

abbrev farewell_two : Datagram
farewell_two = Session 0 131385 true first_page (named first_stream 2 ∷ []) []

refused : verdict_of (in_roster 0 1 1051) two (Drew first_page []) ≡ Refused faults.Leaving
refused = refl

-- an idle tick before it, without the data
no_farewell : session_message_due (in_roster 0 1 1051) 0 two (entry 0 131384 Ticked (quiet Leaving)) ≡ None
no_farewell = refl

then_farewell : session_message_due (in_roster 0 1 1051) 0 two (entry 0 131385 Ticked (record (quiet Gone) { outs = Data (full 2) ∷ farewell_two ∷ [] })) ≡ Some true
then_farewell = refl

abbrev left : List Entry
left = two ++ entry 0 131385 Ticked (record (quiet Gone) { outs = Data (full 2) ∷ farewell_two ∷ [] }) ∷ []

abbrev gives : ℕ → Option PageMsg → Entry
gives slot message = entry 0 131385 (Gave slot) (record (quiet Gone) { message = message })

abbrev given_so_far : List Entry
given_so_far = left ++ map (gives 0) (Some (Open first_page) ∷ Some (Draw (full 1)) ∷ Some (Draw (full 2)) ∷ [])

-- the slot of a gone agent closes once all is given, and a slot without a page at once
closes : GiveRight (in_roster 0 1 1051) given_so_far 0 (Some Close)
closes = (refl, refl, refl)

nothing_after : GiveRight (in_roster 0 1 1051) (given_so_far ++ gives 0 (Some Close) ∷ []) 0 None
nothing_after = (λ _. refl, refl)

closes_empty : GiveRight (in_roster 0 1 1051) left 1 (Some Close)
closes_empty = (refl, refl, refl)

gives_next : GiveRight (in_roster 0 1 1051) (left ++ gives 0 (Some (Open first_page)) ∷ []) 0 (Some (Draw (full 1)))
gives_next = (refl, refl, refl, refl)

-- of two sources that have something the smaller goes first
abbrev drawn_by_1 : Drawop
drawn_by_1 = record { name = named (stream_on 1 first_page) 1; stamp = 1; body = 98 ∷ [] }

abbrev two_ready : List Entry
two_ready = hears 2 1 (Data drawn_by_1) [] ∷ hears 2 2 (Data (full 1)) [] ∷ entry 2 2 (Gave 0) (record (quiet Active) { message = Some (Open first_page) }) ∷ []

gives_smaller : GiveRight (in_roster 2 3 1051) two_ready 0 (Some (Draw (full 1)))
gives_smaller = (refl, refl, refl, refl)

greater_waits : is_smallest two_ready (given two_ready 0) first_page 1 ≡ false
greater_waits = refl

then_greater : GiveRight (in_roster 2 3 1051) (two_ready ++ entry 2 2 (Gave 0) (record (quiet Active) { message = Some (Draw (full 1)) }) ∷ []) 0 (Some (Draw drawn_by_1))
then_greater = (refl, refl, refl, refl)

-- 32 members, all heard, with a row and an echo for each: 806 bytes, and a long pause
abbrev all_heard : List Entry
all_heard = map (λ m. hears 0 1 (Session m 1 false first_page (named (stream_on m first_page) 1 ∷ []) []) []) (count_up 1 31)

abbrev big : Datagram
big = Session 0 1000000 false first_page (map (λ m. named (stream_on m first_page) 1) (count_up 0 32)) (echoes_owed (in_roster 0 32 4204) all_heard 1000000)

big_length : length_of big ≡ 806
big_length = refl

long_interval : session_due (in_roster 0 32 4204) 0 (all_heard ++ entry 0 1000000 Ticked (record (quiet Active) { outs = big ∷ [] }) ∷ []) ≡ 1000000 + 64480000
long_interval = refl

-- the newest message of a member is echoed, and an older one that comes later isn't
echoed : echoes_owed (in_roster 0 3 4204) (hears 0 600000 (Session 1 500000 false first_page [] []) [] ∷ hears 0 700000 (Session 1 400000 false first_page [] []) [] ∷ []) 800000
    ≡ record { member = 1; t1 = 500000; delay = 200000 } ∷ []
echoed = refl

-- a tick hands in its requests and then its repairs, by the page shown, and pops until nothing goes
abbrev answering : Entry
answering = entry 0 9 Ticked (record (quiet Active) { asks = named (stream_on 1 first_page) 2 ∷ []; fixes = named first_stream 1 ∷ [] })

answers_first : calls_by 0 (record { before = draws_full 1 ∷ []; this = record { entry = answering; goes = [] } })
    ≡ Handed (classed Shown (Request 0 (named (stream_on 1 first_page) 2) 0)) ∷ Handed (classed Shown (Repair 0 (full 1))) ∷ Popped 9 None ∷ []
answers_first = refl

-- the bucket's law at the leaver's first tick
abbrev handed_one : List (BucketCall Datagram)
handed_one = Handed (data_of 1) ∷ []

abbrev handed_two : List (BucketCall Datagram)
handed_two = Handed (data_of 1) ∷ Handed (data_of 2) ∷ []

abbrev popped_one : List (BucketCall Datagram)
popped_one = handed_two ++ Popped 10 (Some (data_of 1)) ∷ []

abbrev popped_two : List (BucketCall Datagram)
popped_two = popped_one ++ Popped 10 None ∷ []

bucket_holds : BucketRight (in_roster 0 1 1051) (entries_of (take 3 two_going))
bucket_holds = (take 3 two_going, refl, (goes_right, (goes_right, (tick_right, tt))), (drawn, (drawn_too, (goes, (ends, tt)))))
  where
    goes_right : {n : ℕ} {before : List Going} → GoesAsCharged (record { before = before; this = draws_full n })
    goes_right = record { same = refl; at_ticks = refl }

    tick_right : GoesAsCharged (record { before = take 2 two_going; this = first_tick })
    tick_right = record { same = refl; at_ticks = tt }

    drawn : CallRight 8000 1051 [] handed_one (Handed (data_of 1))
    drawn = record { in_order = prefixes; highest_first = tt; not_too_much = tt; all_that_may = tt }
      where
        prefixes : (class : Class) → IsPrefix (departed class handed_one) (bucket.handed class handed_one)
        prefixes class = (bucket.handed class handed_one, refl)

    drawn_too : CallRight 8000 1051 handed_one handed_two (Handed (data_of 2))
    drawn_too = record { in_order = prefixes; highest_first = tt; not_too_much = tt; all_that_may = tt }
      where
        prefixes : (class : Class) → IsPrefix (departed class handed_two) (bucket.handed class handed_two)
        prefixes class = (bucket.handed class handed_two, refl)

    goes : CallRight 8000 1051 handed_two popped_one (Popped 10 (Some (data_of 1)))
    goes = record { in_order = prefixes; highest_first = higher; not_too_much = (lit≤ tt, lit≤ tt, tt); all_that_may = tt }
      where
        prefixes : (class : Class) → IsPrefix (departed class popped_one) (bucket.handed class popped_one)
        prefixes Shown = ([], refl)
        prefixes New = ((data_of 2).item ∷ [], refl)
        prefixes Other = ([], refl)

        higher : (class : Class) → rank class < 2 → departed class handed_two ≡ bucket.handed class handed_two
        higher Shown l = refl
        higher New l = absurd (omega arith)
        higher Other l = absurd (omega arith)

    ends : CallRight 8000 1051 popped_one popped_two (Popped 10 None)
    ends = record { in_order = prefixes; highest_first = tt; not_too_much = (lit≤ tt, lit≤ tt, tt); all_that_may = lit< tt }
      where
        prefixes : (class : Class) → IsPrefix (departed class popped_two) (bucket.handed class popped_two)
        prefixes Shown = ([], refl)
        prefixes New = ((data_of 2).item ∷ [], refl)
        prefixes Other = ([], refl)
