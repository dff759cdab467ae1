-- The second stored script, step by step: a source draws, sends and leaves; a member that misses a drawop asks for it, and has
-- it from a third one.
use Rattle.std.specs.Prelude.{◌≡◌, Bool, List, [], ◌∷◌, ◌++◌, map, replicate, true, false, Option, Some, None, option_map, refl}
use Rattle.std.proofs.Common.{arith}
use Rattle.srm_names.specs.declared.page_msg.PageMsg.TheVariants.{Open, Draw, Left}
use Rattle.srm_names.specs.Names.{first_page, named}
use Rattle.srm_names.specs.PageFeeds.{is_page_feed}
use Rattle.srm_codec.specs.declared.datagram.Datagram.{Datagram}
use Rattle.srm_codec.specs.declared.datagram.Datagram.TheVariants.{Data, Request, Repair, Session}
use Rattle.srm_codec.specs.Spelling.{bits_set, length_of, is_farewell}
use Rattle.srm_bucket.specs.declared.class.Class.TheVariants.{Shown, New}
use Rattle.srm_timers.specs.Arms.{WaitBasis, wait_basis, arm_of}
use Rattle.srm_store.specs.Finals.{number_in_rows}
use Rattle.srm_entries.specs.declared.entry.Entry.{Entry}
use Rattle.srm_entries.specs.declared.state.AgentState.TheVariants.{Active, Leaving, Gone}
use Rattle.srm_entries.specs.declared.entry.Input.TheVariants.{Drew, Ticked, AskedLeave}
use Rattle.srm_entries.specs.declared.fault.AgentFault.TheVariants as faults
use Rattle.srm_entries.specs.declared.entry.Verdict.TheVariants.{Done, Refused}
use Rattle.srm_entries.specs.Entries.{done, state, is_missing, released}
use Rattle.srm_entries.specs.Timers.{basis_of, ask_due, fix_due, held_off, first_asker}
use Rattle.srm_entries.specs.Verdicts.{verdict_of, final}
use Rattle.srm_entries.specs.Sessions.{session_message_due, expected_row, echoes_owed, members_remaining}
use Rattle.srm_entries.specs.Bucket.{classed, idle}
use Rattle.srm_entries.specs.Giving.{given, GiveRight, may_leave}
use Rattle.srm_entries.specs.Runs.{expected_drawop, expected_state}
use Rattle.srm_entries.specs.Sample.{first_stream, first_drawop, second_drawop, third_drawop, quiet, entry, draws, hears, ticks, gives, ask_arm, fix_arm, ask_set, fix_set, at_each, let_go, trio, four_names}
use Rattle.std.specs.List.{list_any}

abbrev pub farewell : Datagram
farewell = Session 0 21 true first_page (named first_stream 3 ∷ []) []

abbrev pub asks_b : Datagram
asks_b = Request 1 (named first_stream 2) 0

-- the source
abbrev pub sends : Entry
sends = ticks 0 4 [] [] [] (Data first_drawop ∷ Data second_drawop ∷ Data third_drawop ∷ [])

abbrev pub asks_leave : Entry
asks_leave = entry 0 20 AskedLeave (quiet Leaving)

abbrev pub parts : Entry
parts = entry 0 21 Ticked (record (quiet Gone) { outs = farewell ∷ [] })

abbrev pub member_0 : List Entry
member_0 = draws 0 1 first_drawop ∷ draws 0 2 second_drawop ∷ draws 0 3 third_drawop ∷ sends ∷ asks_leave ∷ parts ∷ []

-- the member that misses the second drawop
abbrev pub heard_by_1 : List Entry
heard_by_1 = hears 1 30 (Data first_drawop) [] ∷ hears 1 31 (Data third_drawop) (ask_arm 2 0 200000 ∷ []) ∷ hears 1 32 farewell [] ∷ []

abbrev pub given_early : List Entry
given_early = gives 1 32 (Some (Open first_page)) ∷ gives 1 32 (Some (Draw first_drawop)) ∷ gives 1 32 None ∷ []

abbrev pub asked_by_1 : List Entry
asked_by_1 = ticks 1 200030 [] [] [] [] ∷ ticks 1 200031 (named first_stream 2 ∷ []) [] (ask_arm 2 1 400000 ∷ []) (asks_b ∷ []) ∷ []

abbrev pub repaired_at_1 : Entry
repaired_at_1 = hears 1 200100 (Repair 2 second_drawop) []

abbrev pub given_late : List Entry
given_late = gives 1 200100 (Some (Draw second_drawop)) ∷ gives 1 200100 (Some (Draw third_drawop)) ∷ gives 1 200100 (Some (Left 0)) ∷ gives 1 200100 None ∷ []

abbrev pub before_repair : List Entry
before_repair = heard_by_1 ++ given_early ++ asked_by_1

abbrev pub member_1 : List Entry
member_1 = before_repair ++ repaired_at_1 ∷ given_late

-- the member that repairs
abbrev pub heard_by_2 : List Entry
heard_by_2 = hears 2 30 (Data first_drawop) [] ∷ hears 2 31 (Data second_drawop) [] ∷ hears 2 32 (Data third_drawop) [] ∷ []

abbrev pub asked_of_2 : Entry
asked_of_2 = hears 2 100 asks_b (fix_arm 2 100000 ∷ [])

abbrev pub repairs : Entry
repairs = ticks 2 100100 [] (named first_stream 2 ∷ []) [] (Repair 2 second_drawop ∷ [])

abbrev pub member_2 : List Entry
member_2 = heard_by_2 ++ asked_of_2 ∷ ticks 2 100099 [] [] [] [] ∷ repairs ∷ []

abbrev none_of_four : List (Option WaitBasis)
none_of_four = None ∷ None ∷ None ∷ None ∷ []

abbrev four_false : List Bool
four_false = false ∷ false ∷ false ∷ false ∷ []

-- verdicts
verdicts_0 : at_each (λ s. verdict_of (trio 0) s.before s.this.input) member_0 ≡ replicate 6 Done
verdicts_0 = refl

verdicts_1 : at_each (λ s. verdict_of (trio 1) s.before s.this.input) member_1 ≡ replicate 13 Done
verdicts_1 = refl

verdicts_2 : at_each (λ s. verdict_of (trio 2) s.before s.this.input) member_2 ≡ replicate 6 Done
unfolding bits_set
verdicts_2 = refl

gone_for_good : verdict_of (trio 0) member_0 (Drew first_page []) ≡ Refused faults.Gone
gone_for_good = refl

-- drawops
drawn_0 : at_each (λ s. expected_drawop (trio 0) s.before s.this.moment (done s.this)) member_0 ≡ Some first_drawop ∷ Some second_drawop ∷ Some third_drawop ∷ None ∷ None ∷ None ∷ []
drawn_0 = refl

drawn_by_others : at_each (λ s. expected_drawop (trio 1) s.before s.this.moment (done s.this)) (member_1 ++ member_2) ≡ replicate 19 None
drawn_by_others = refl

-- timers: a request timer when the third drawop shows the gap, and again when the member requests
arms_0 : at_each (λ s. map (basis_of (trio 0) s.before s.this) four_names) member_0 ≡ replicate 6 none_of_four
arms_0 = refl

arms_1 : at_each (λ s. map (basis_of (trio 1) s.before s.this) four_names) member_1
    ≡ none_of_four ∷ (None ∷ ask_set 0 ∷ None ∷ None ∷ []) ∷ replicate 5 none_of_four ++ (None ∷ ask_set 1 ∷ None ∷ None ∷ []) ∷ replicate 5 none_of_four
arms_1 = refl

-- a repair when it hears the request for what it holds
arms_2 : at_each (λ s. map (basis_of (trio 2) s.before s.this) four_names) member_2 ≡ replicate 3 none_of_four ++ (None ∷ fix_set ∷ None ∷ None ∷ []) ∷ replicate 2 none_of_four
unfolding bits_set
arms_2 = refl

arms_are_these : map (λ (e : Entry). map (λ n. option_map wait_basis (arm_of n e.effects.arms)) four_names) (member_1 ++ member_2)
    ≡ at_each (λ s. map (basis_of (trio 1) s.before s.this) four_names) member_1 ++ at_each (λ s. map (basis_of (trio 2) s.before s.this) four_names) member_2
unfolding bits_set
arms_are_these = refl

-- timers: the request at 200,031 and not a microsecond sooner, the repair at 100,100
asks_at_ticks : at_each (λ s. map (λ n. ask_due s.before n s.this.moment) four_names) before_repair
    ≡ four_false ∷ four_false ∷ four_false ∷ four_false ∷ four_false ∷ four_false ∷ four_false ∷ (false ∷ true ∷ false ∷ false ∷ []) ∷ []
asks_at_ticks = refl

asks_no_more : map (λ n. ask_due member_1 n 600031) four_names ≡ four_false
asks_no_more = refl

would_ask_again : map (λ n. ask_due before_repair n 600031) four_names ≡ false ∷ true ∷ false ∷ false ∷ []
would_ask_again = refl

fixes_at_ticks : at_each (λ s. map (λ n. fix_due s.before n s.this.moment) four_names) member_2 ≡ replicate 5 four_false ++ (false ∷ true ∷ false ∷ false ∷ []) ∷ []
unfolding bits_set
fixes_at_ticks = refl

fixes_elsewhere : at_each (λ s. map (λ n. fix_due s.before n s.this.moment) four_names) member_1 ≡ replicate 13 four_false
fixes_elsewhere = refl

-- the name is held off for three distances to the member that asked
first_to_ask : first_asker member_2 (named first_stream 2) ≡ 1
unfolding bits_set
first_to_ask = refl

held_off_until : map (held_off (trio 2) member_2 (named first_stream 2)) (400099 ∷ 400100 ∷ []) ≡ true ∷ false ∷ []
unfolding bits_set
held_off_until = refl

missing_at_1 : at_each (λ s. is_missing s.before (named first_stream 2)) member_1
    ≡ false ∷ false ∷ true ∷ true ∷ true ∷ true ∷ true ∷ true ∷ true ∷ false ∷ false ∷ false ∷ false ∷ []
missing_at_1 = refl

-- bucket
all_three_go : let_go (trio 0) (map idle (draws 0 1 first_drawop ∷ draws 0 2 second_drawop ∷ draws 0 3 third_drawop ∷ []) ++ record { entry = sends; goes = map (classed New) (Data first_drawop ∷ Data second_drawop ∷ Data third_drawop ∷ []) } ∷ idle asks_leave ∷ idle parts ∷ [])
    ≡ Some (classed New (Data first_drawop)) ∷ Some (classed New (Data second_drawop)) ∷ Some (classed New (Data third_drawop)) ∷ None ∷ None ∷ []
all_three_go = refl

request_goes : let_go (trio 1) (map idle (heard_by_1 ++ given_early ++ ticks 1 200030 [] [] [] [] ∷ [])
    ++ record { entry = ticks 1 200031 (named first_stream 2 ∷ []) [] (ask_arm 2 1 400000 ∷ []) (asks_b ∷ []); goes = classed Shown asks_b ∷ [] } ∷ []) ≡ None ∷ Some (classed Shown asks_b) ∷ None ∷ []
request_goes = refl

repair_goes : let_go (trio 2) (map idle (heard_by_2 ++ asked_of_2 ∷ ticks 2 100099 [] [] [] [] ∷ []) ++ record { entry = repairs; goes = classed Shown (Repair 2 second_drawop) ∷ [] } ∷ [])
    ≡ None ∷ Some (classed Shown (Repair 2 second_drawop)) ∷ None ∷ []
unfolding bits_set
repair_goes = refl

lengths : map length_of (farewell ∷ asks_b ∷ Repair 2 second_drawop ∷ []) ≡ 31 ∷ 17 ∷ 28 ∷ []
lengths = refl

-- endings: the tick after the leaving ends with a farewell, no other with a session message
endings_0 : at_each (λ s. session_message_due (trio 0) 0 s.before s.this) member_0 ≡ replicate 5 None ++ Some true ∷ []
endings_0 = refl

endings_1 : at_each (λ s. session_message_due (trio 1) 0 s.before s.this) member_1 ≡ replicate 13 None
endings_1 = refl

endings_2 : at_each (λ s. session_message_due (trio 2) 0 s.before s.this) member_2 ≡ replicate 6 None
endings_2 = refl

abbrev before_parting : List Entry
before_parting = draws 0 1 first_drawop ∷ draws 0 2 second_drawop ∷ draws 0 3 third_drawop ∷ sends ∷ asks_leave ∷ []

farewell_row : expected_row (trio 0) before_parting true first_stream ≡ number_in_rows (named first_stream 3 ∷ []) first_stream
farewell_row = refl

no_echoes : echoes_owed (trio 0) before_parting 21 ≡ []
no_echoes = refl

-- states
states_0 : at_each (λ s. expected_state (state s.before) (list_any is_farewell s.this.effects.outs) (done s.this)) member_0 ≡ replicate 4 Active ++ Leaving ∷ Gone ∷ []
states_0 = refl

states_of_others : map (λ (e : Entry). e.effects.state) (member_1 ++ member_2) ≡ at_each (λ s. expected_state (state s.before) false (done s.this)) (member_1 ++ member_2)
states_of_others = refl

-- what the farewell settles
finals : map (final member_1) (first_stream ∷ record { source = 0; page = record { creator = 0; number = 1 } } ∷ record { source = 2; page = first_page } ∷ []) ≡ Some 3 ∷ Some 0 ∷ None ∷ []
finals = refl

left_out : members_remaining (trio 1) member_1 ≡ 2
left_out = refl

-- what may be given: nothing past the gap, and the leaving only after all that was drawn
opens : GiveRight (trio 1) heard_by_1 0 (Some (Open first_page))
opens = (refl, refl)

gives_first : GiveRight (trio 1) (heard_by_1 ++ gives 1 32 (Some (Open first_page)) ∷ []) 0 (Some (Draw first_drawop))
gives_first = (refl, refl, refl, refl)

stops_at_the_gap : GiveRight (trio 1) (heard_by_1 ++ gives 1 32 (Some (Open first_page)) ∷ gives 1 32 (Some (Draw first_drawop)) ∷ []) 0 None
stops_at_the_gap = (λ gone. absurd (grind arith), refl)

not_left_yet : may_leave before_repair first_page (given before_repair 0) 0 ≡ false
not_left_yet = refl

abbrev repaired : List Entry
repaired = before_repair ++ repaired_at_1 ∷ []

gives_second : GiveRight (trio 1) repaired 0 (Some (Draw second_drawop))
gives_second = (refl, refl, refl, refl)

gives_third : GiveRight (trio 1) (repaired ++ gives 1 200100 (Some (Draw second_drawop)) ∷ []) 0 (Some (Draw third_drawop))
gives_third = (refl, refl, refl, refl)

gives_leaving : GiveRight (trio 1) (repaired ++ gives 1 200100 (Some (Draw second_drawop)) ∷ gives 1 200100 (Some (Draw third_drawop)) ∷ []) 0 (Some (Left 0))
gives_leaving = (refl, refl, refl, refl)

gives_no_more : GiveRight (trio 1) (repaired ++ gives 1 200100 (Some (Draw second_drawop)) ∷ gives 1 200100 (Some (Draw third_drawop)) ∷ gives 1 200100 (Some (Left 0)) ∷ []) 0 None
gives_no_more = (λ gone. absurd (grind arith), refl)

given_in_order : given member_1 0 ≡ Open first_page ∷ Draw first_drawop ∷ Draw second_drawop ∷ Draw third_drawop ∷ Left 0 ∷ []
given_in_order = refl

a_page_feed : is_page_feed (given member_1 0) ≡ true
a_page_feed = refl

released_all : map (λ es. released es first_stream) (before_repair ∷ member_1 ∷ []) ≡ (first_drawop ∷ []) ∷ (first_drawop ∷ second_drawop ∷ third_drawop ∷ []) ∷ []
released_all = refl
