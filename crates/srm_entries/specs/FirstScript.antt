-- The first stored script, step by step: member 0 draws three drawops and sends them; member 1 hears them late, out of order
-- and one of them twice, gives them in order and has them taken.
use Rattle.std.specs.Prelude.{◌≡◌, List, [], ◌∷◌, ◌++◌, map, replicate, drop, true, false, Option, Some, None, option_map, refl}
use Rattle.std.proofs.Common.{lit≤, arith}
use Rattle.std.specs.List.{AllByRecursion}
use Rattle.srm_names.specs.declared.page_msg.PageMsg.{PageMsg}
use Rattle.srm_names.specs.declared.page_msg.PageMsg.TheVariants.{Open, Draw}
use Rattle.srm_names.specs.Histories.{Step, steps}
use Rattle.srm_names.specs.Names.{first_page}
use Rattle.srm_names.specs.PageFeeds.{is_page_feed}
use Rattle.srm_codec.specs.declared.datagram.Datagram.TheVariants.{Data}
use Rattle.srm_codec.specs.Spelling.{length_of}
use Rattle.srm_bucket.specs.declared.class.Class.TheVariants.{New}
use Rattle.srm_bucket.specs.Law.{level_at}
use Rattle.srm_timers.specs.Arms.{wait_basis, arm_of}
use Rattle.srm_entries.specs.declared.entry.Entry.{Entry}
use Rattle.srm_entries.specs.declared.state.AgentState.TheVariants.{Active}
use Rattle.srm_entries.specs.declared.entry.Verdict.TheVariants.{Done}
use Rattle.srm_entries.specs.Entries.{done, state, slots, last_moment, known, is_missing, released}
use Rattle.srm_entries.specs.Timers.{basis_of, ask_due, fix_due, low_of, high_of}
use Rattle.srm_entries.specs.Verdicts.{verdict_of}
use Rattle.srm_entries.specs.Sessions.{session_message_due, session_due}
use Rattle.srm_entries.specs.Bucket.{Going, idle, classed, bucket_calls}
use Rattle.srm_entries.specs.Giving.{given, taken, GiveRight, next_taken}
use Rattle.srm_entries.specs.Runs.{MomentRight, expected_drawop, expected_state}
use Rattle.srm_entries.specs.Sample.{first_stream, first_drawop, second_drawop, third_drawop, draws, hears, ticks, gives, takes, ask_arm, ask_set, at_each, let_go, config, four_names}

-- what the member that draws did
abbrev pub member_0 : List Entry
member_0 = draws 0 1 first_drawop ∷ draws 0 2 second_drawop ∷ draws 0 3 third_drawop ∷ ticks 0 4 [] [] [] (Data first_drawop ∷ Data second_drawop ∷ Data third_drawop ∷ []) ∷ []

-- what the member that hears did
abbrev pub heard_by_1 : List Entry
heard_by_1 = hears 1 10 (Data third_drawop) (ask_arm 1 0 200000 ∷ ask_arm 2 0 200000 ∷ []) ∷ hears 1 11 (Data first_drawop) [] ∷ hears 1 12 (Data first_drawop) [] ∷ hears 1 13 (Data second_drawop) [] ∷ []

abbrev pub messages : List (Option PageMsg)
messages = Some (Open first_page) ∷ Some (Draw first_drawop) ∷ Some (Draw second_drawop) ∷ Some (Draw third_drawop) ∷ None ∷ []

abbrev pub given_by_1 : List Entry
given_by_1 = map (gives 1 13) messages

abbrev pub taken_by_1 : List Entry
taken_by_1 = map (takes 1 13) messages

abbrev pub member_1 : List Entry
member_1 = heard_by_1 ++ given_by_1 ++ taken_by_1

-- verdicts: every call is done, also the one that hears a drawop again
verdicts_0 : at_each (λ s. verdict_of (config 0) s.before s.this.input) member_0 ≡ replicate 4 Done
verdicts_0 = refl

verdicts_1 : at_each (λ s. verdict_of (config 1) s.before s.this.input) member_1 ≡ replicate 14 Done
verdicts_1 = refl

-- drawops: each draw makes the next one, with its moment
drawn_0 : at_each (λ s. expected_drawop (config 0) s.before s.this.moment (done s.this)) member_0 ≡ Some first_drawop ∷ Some second_drawop ∷ Some third_drawop ∷ None ∷ []
drawn_0 = refl

drawn_1 : at_each (λ s. expected_drawop (config 1) s.before s.this.moment (done s.this)) member_1 ≡ replicate 14 None
drawn_1 = refl

-- moments: gives and takes have the last one
moments_0 : at_each (λ s. last_moment 0 s.before) member_0 ≡ 0 ∷ 1 ∷ 2 ∷ 3 ∷ []
moments_0 = refl

moments_1 : at_each (λ s. last_moment 0 s.before) member_1 ≡ 0 ∷ 10 ∷ 11 ∷ 12 ∷ replicate 10 13
moments_1 = refl

moments_right : AllByRecursion (λ (s : Step Entry). MomentRight (config 1) 0 s.before s.this) (steps heard_by_1)
moments_right = (lit≤ tt, (lit≤ tt, (lit≤ tt, (lit≤ tt, tt))))

-- timers: the third drawop, heard first, makes the first two missing
arms_0 : at_each (λ s. map (basis_of (config 0) s.before s.this) four_names) member_0 ≡ replicate 4 (None ∷ None ∷ None ∷ None ∷ [])
arms_0 = refl

arms_1 : at_each (λ s. map (basis_of (config 1) s.before s.this) four_names) member_1 ≡ (ask_set 0 ∷ ask_set 0 ∷ None ∷ None ∷ []) ∷ replicate 13 (None ∷ None ∷ None ∷ None ∷ [])
arms_1 = refl

arms_are_these : at_each (λ s. map (λ n. option_map wait_basis (arm_of n s.this.effects.arms)) four_names) member_1 ≡ at_each (λ s. map (basis_of (config 1) s.before s.this) four_names) member_1
arms_are_these = refl

waits_from : map (low_of (config 1)) (ask_arm 1 0 200000 ∷ ask_arm 2 0 200000 ∷ []) ≡ 200000 ∷ 200000 ∷ []
waits_from = refl

waits_to : map (high_of (config 1)) (ask_arm 1 0 200000 ∷ ask_arm 2 0 200000 ∷ []) ≡ 400000 ∷ 400000 ∷ []
waits_to = refl

-- timers: none runs out at the one tick, and none would, as the drawops came before their timers ran out
none_due_0 : map (λ n. ask_due (draws 0 1 first_drawop ∷ draws 0 2 second_drawop ∷ draws 0 3 third_drawop ∷ []) n 4) four_names ≡ false ∷ false ∷ false ∷ false ∷ []
none_due_0 = refl

would_ask : map (λ n. ask_due (hears 1 10 (Data third_drawop) (ask_arm 1 0 200000 ∷ ask_arm 2 0 200000 ∷ []) ∷ []) n 200010) four_names ≡ true ∷ true ∷ false ∷ false ∷ []
would_ask = refl

none_due_1 : map (λ n. ask_due heard_by_1 n 200010) four_names ≡ false ∷ false ∷ false ∷ false ∷ []
none_due_1 = refl

no_repair_due : map (λ n. fix_due heard_by_1 n 200010) four_names ≡ false ∷ false ∷ false ∷ false ∷ []
no_repair_due = refl

missing_at_each : at_each (λ s. map (is_missing s.before) four_names) heard_by_1
    ≡ (false ∷ false ∷ false ∷ false ∷ []) ∷ (true ∷ true ∷ false ∷ false ∷ []) ∷ (false ∷ true ∷ false ∷ false ∷ []) ∷ (false ∷ true ∷ false ∷ false ∷ []) ∷ []
missing_at_each = refl

-- bucket: at the tick all three go, and then nothing is left
abbrev going_0 : List Going
going_0 = idle (draws 0 1 first_drawop) ∷ idle (draws 0 2 second_drawop) ∷ idle (draws 0 3 third_drawop)
    ∷ record { entry = ticks 0 4 [] [] [] (Data first_drawop ∷ Data second_drawop ∷ Data third_drawop ∷ []); goes = map (classed New) (Data first_drawop ∷ Data second_drawop ∷ Data third_drawop ∷ []) } ∷ []

all_three_go : let_go (config 0) going_0 ≡ Some (classed New (Data first_drawop)) ∷ Some (classed New (Data second_drawop)) ∷ Some (classed New (Data third_drawop)) ∷ None ∷ []
all_three_go = refl

lengths : map length_of (Data first_drawop ∷ Data second_drawop ∷ Data third_drawop ∷ []) ≡ 28 ∷ 28 ∷ 28 ∷ []
lengths = refl

-- 84 of the 4,204 bytes went
level_left : level_at 8000 4204 (bucket_calls 0 going_0) 4 ≡ 4120000000
level_left = refl

-- endings: the tick is too early for a session message
endings : at_each (λ s. session_message_due (config 0) 0 s.before s.this) member_0 ≡ replicate 4 None
endings = refl

first_session_due : map (λ m. session_due (config m) 0 []) (0 ∷ 1 ∷ []) ≡ 1000000 ∷ 1000000 ∷ []
first_session_due = refl

-- states
states : at_each (λ s. expected_state (state s.before) false (done s.this)) (member_0 ++ member_1) ≡ replicate 18 Active
states = refl

-- what may be given: at each give, its message
opens : GiveRight (config 1) heard_by_1 0 (Some (Open first_page))
opens = (refl, refl)

gives_first : GiveRight (config 1) (heard_by_1 ++ gives 1 13 (Some (Open first_page)) ∷ []) 0 (Some (Draw first_drawop))
gives_first = (refl, refl, refl, refl)

gives_second : GiveRight (config 1) (heard_by_1 ++ map (gives 1 13) (Some (Open first_page) ∷ Some (Draw first_drawop) ∷ [])) 0 (Some (Draw second_drawop))
gives_second = (refl, refl, refl, refl)

gives_third : GiveRight (config 1) (heard_by_1 ++ map (gives 1 13) (Some (Open first_page) ∷ Some (Draw first_drawop) ∷ Some (Draw second_drawop) ∷ [])) 0 (Some (Draw third_drawop))
gives_third = (refl, refl, refl, refl)

gives_no_more : GiveRight (config 1) (heard_by_1 ++ map (gives 1 13) (Some (Open first_page) ∷ Some (Draw first_drawop) ∷ Some (Draw second_drawop) ∷ Some (Draw third_drawop) ∷ [])) 0 None
gives_no_more = (λ gone. absurd (grind arith), refl)

-- what is released grows from nothing to all three
released_at_each : at_each (λ s. released s.before first_stream) (heard_by_1 ++ gives 1 13 None ∷ []) ≡ [] ∷ [] ∷ (first_drawop ∷ []) ∷ (first_drawop ∷ []) ∷ (first_drawop ∷ second_drawop ∷ third_drawop ∷ []) ∷ []
released_at_each = refl

known_at_each : at_each (λ s. known s.before first_stream) heard_by_1 ≡ 0 ∷ 3 ∷ 3 ∷ 3 ∷ []
known_at_each = refl

one_slot : slots member_1 ≡ first_page ∷ []
one_slot = refl

-- what was given is taken, in order, and then nothing
given_in_order : given member_1 0 ≡ Open first_page ∷ Draw first_drawop ∷ Draw second_drawop ∷ Draw third_drawop ∷ []
given_in_order = refl

takes_in_order : map (λ (s : Step Entry). next_taken s.before 0) (drop 9 (steps member_1)) ≡ messages
takes_in_order = refl

all_taken : taken member_1 0 ≡ given member_1 0
all_taken = refl

a_page_feed : is_page_feed (taken member_1 0) ≡ true
a_page_feed = refl
