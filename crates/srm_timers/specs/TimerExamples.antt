-- The definitions of timers at worked examples.
use Rattle.std.specs.Prelude.{◌≡◌, ℕ, true, false, [], ◌∷◌, Some, None, option_map, refl}
use Rattle.srm_names.specs.FullName.{FullName}
use Rattle.srm_names.specs.Names.{first_page, named}
use Rattle.srm_timers.specs.declared.arm.Arm.{Arm}
use Rattle.srm_timers.specs.declared.arm.Armed.{Armed}
use Rattle.srm_timers.specs.declared.arm.ArmKind.TheVariants.{Ask, Fix}
use Rattle.srm_timers.specs.Arms.{same_kind, runs_out_at, ignored_until, ran_out, next_exponent, backs_off, wait_basis, plan_of, arm_of, arm_names, low_of, high_of, AreChosen}
use Rattle.srm_timers.specs.ListedWords.{next_listed}
use Rattle.srm_timers.specs.Distances.{distance_to}
use Rattle.srm_timers.specs.Timers.{armed_at}
use Rattle.srm_timers.specs.AskCalls.{Set, Gained, ask_timer, sets, ask_basis, found_basis, due_basis}
use Rattle.srm_timers.specs.FixCalls.{Asked, SetFix, Repaired, first_asker, fix_timer, calls_hold_off, is_free, repair_holds_until, repair_calls}

abbrev name : ℕ → FullName
name number = named (record { source = 0; page = first_page }) number

abbrev ask : ℕ → ℕ → ℕ → ℕ → Arm
ask number exponent distance wait = record { kind = Ask; name = name number; exponent = exponent; distance = distance; wait = wait }

abbrev fix : ℕ → ℕ → ℕ → Arm
fix number distance wait = record { kind = Fix; name = name number; exponent = 0; distance = distance; wait = wait }

-- a wait of 5 that was set at 10: the half is rounded down
abbrev odd : Armed
odd = armed_at 10 (ask 1 1 1 5)

runs_out_at_15 : runs_out_at odd ≡ 15
runs_out_at_15 = refl

ignored_before_12 : ignored_until odd ≡ 12
ignored_before_12 = refl

not_at_14 : ran_out 14 (Some odd) ≡ false
not_at_14 = refl

at_15 : ran_out 15 (Some odd) ≡ true
at_15 = refl

none_runs_out : ran_out 15 None ≡ false
none_runs_out = refl

ignored_at_11 : backs_off 11 (Some odd) ≡ None
ignored_at_11 = refl

heard_at_12 : backs_off 12 (Some odd) ≡ Some 2
heard_at_12 = refl

-- exponent 0 has no ignore moment
heard_at_once : backs_off 10 (Some (armed_at 10 (ask 1 0 1 4))) ≡ Some 1
heard_at_once = refl

none_to_back_off : backs_off 12 None ≡ None
none_to_back_off = refl

seven_and_one : next_exponent (armed_at 0 (ask 1 7 1 0)) ≡ 8
seven_and_one = refl

eight_stays : next_exponent (armed_at 0 (ask 1 8 1 0)) ≡ 8
eight_stays = refl

asks_differ_from_fixes : same_kind Ask Fix ≡ false
asks_differ_from_fixes = refl

-- the bounds of ranges
first_low : low_of 2 (ask 1 0 100000 0) ≡ 200000
first_low = refl

first_high : high_of 2 2 (ask 1 0 100000 0) ≡ 400000
first_high = refl

last_low : low_of 2 (ask 1 8 100000 0) ≡ 51200000
last_low = refl

repair_low : low_of 1 (fix 1 100000 0) ≡ 100000
repair_low = refl

repair_high : high_of 1 1 (fix 1 100000 0) ≡ 200000
repair_high = refl

doubled_high : high_of 2 3 (ask 1 1 100000 0) ≡ 1000000
doubled_high = refl

-- the last random number of the range, and the one past it
chosen_in_order : AreChosen next_listed (low_of 2) (high_of 2 2) (200000 ∷ 200001 ∷ 7 ∷ []) (ask 1 0 100000 400000 ∷ ask 2 0 100000 200000 ∷ []) (7 ∷ [])
chosen_in_order = (refl, (refl, refl))

none_chosen : AreChosen next_listed (low_of 2) (high_of 2 2) (5 ∷ []) [] (5 ∷ [])
none_chosen = refl

setting_of_the_second : option_map wait_basis (arm_of (name 2) (ask 1 0 100000 200000 ∷ ask 2 1 100000 400000 ∷ [])) ≡ Some (ask_basis 1 100000)
setting_of_the_second = refl

their_names : arm_names (ask 1 0 100000 200000 ∷ ask 2 1 100000 400000 ∷ []) ≡ name 1 ∷ name 2 ∷ []
their_names = refl

its_plan : plan_of (ask 1 0 7 9) ≡ record { name = name 1; wait_basis = ask_basis 0 7 }
its_plan = refl

to_member_1 : distance_to (7 ∷ 9 ∷ []) 1 ≡ 9
to_member_1 = refl

-- names that are found missing, one of them asked for
asked_one_more : found_basis (name 1 ∷ name 2 ∷ []) (name 2 ∷ []) (100000 ∷ []) (name 2) ≡ Some (ask_basis 1 100000)
asked_one_more = refl

not_asked : found_basis (name 1 ∷ name 2 ∷ []) (name 2 ∷ []) (100000 ∷ []) (name 1) ≡ Some (ask_basis 0 100000)
not_asked = refl

not_found : found_basis (name 1 ∷ name 2 ∷ []) (name 3 ∷ []) (100000 ∷ []) (name 3) ≡ None
not_found = refl

-- a name of another source goes by the distance to that source, whatever it was armed with before
abbrev far : FullName
far = named (record { source = 2; page = first_page }) 1

abbrev far_ask : Arm
far_ask = record { kind = Ask; name = far; exponent = 0; distance = 1; wait = 4 }

found_far : found_basis (far ∷ []) [] (7 ∷ 8 ∷ 9 ∷ []) far ≡ Some (ask_basis 0 9)
found_far = refl

due_far : due_basis 14 (7 ∷ 8 ∷ 9 ∷ []) (ask_timer (Set 10 far_ask ∷ [])) far ≡ Some (ask_basis 1 9)
due_far = refl

-- timers, by the calls so far
set_again : ask_timer (Set 10 (ask 1 0 1 4) ∷ Set 12 (ask 2 0 1 4) ∷ Set 14 (ask 1 1 1 8) ∷ []) (name 1) ≡ Some (armed_at 14 (ask 1 1 1 8))
set_again = refl

gained : ask_timer (Set 10 (ask 1 0 1 4) ∷ Gained (name 1) ∷ []) (name 1) ≡ None
gained = refl

found_after_it_was_gained : ask_timer (Gained (name 1) ∷ sets 12 (ask 1 0 1 4 ∷ ask 2 0 1 3 ∷ [])) (name 2) ≡ Some (armed_at 12 (ask 2 0 1 3))
found_after_it_was_gained = refl

another_is_not_set : ask_timer (Set 10 (ask 1 0 1 4) ∷ []) (name 2) ≡ None
another_is_not_set = refl

another_is_gained : ask_timer (Set 10 (ask 1 0 1 4) ∷ Gained (name 2) ∷ []) (name 1) ≡ Some (armed_at 10 (ask 1 0 1 4))
another_is_gained = refl

due_again : due_basis 14 (1 ∷ []) (ask_timer (Set 10 (ask 1 0 1 4) ∷ [])) (name 1) ≡ Some (ask_basis 1 1)
due_again = refl

not_due_yet : due_basis 13 (1 ∷ []) (ask_timer (Set 10 (ask 1 0 1 4) ∷ [])) (name 1) ≡ None
not_due_yet = refl

-- repairs
the_first_asks : first_asker (Asked (name 1) 3 ∷ Asked (name 1) 4 ∷ []) (name 1) ≡ 3
the_first_asks = refl

nobody_asked : first_asker (Asked (name 2) 3 ∷ []) (name 1) ≡ 0
nobody_asked = refl

a_repair_runs : fix_timer (Asked (name 1) 1 ∷ SetFix 5000000 (fix 1 100000 100000) ∷ []) (name 1) ≡ Some (armed_at 5000000 (fix 1 100000 100000))
a_repair_runs = refl

cancelled : fix_timer (SetFix 5000000 (fix 1 100000 100000) ∷ Repaired (name 1) 5399999 ∷ []) (name 1) ≡ None
cancelled = refl

no_repair_of_another_runs : fix_timer (SetFix 5000000 (fix 1 100000 100000) ∷ []) (name 2) ≡ None
no_repair_of_another_runs = refl

another_cancels_nothing : fix_timer (SetFix 10 (fix 1 7 9) ∷ Repaired (name 2) 40 ∷ []) (name 1) ≡ Some (armed_at 10 (fix 1 7 9))
another_cancels_nothing = refl

off_before : calls_hold_off (Repaired (name 1) 5399999 ∷ []) (name 1) 5399998 ≡ true
off_before = refl

not_off_at : calls_hold_off (Repaired (name 1) 5399999 ∷ []) (name 1) 5399999 ≡ false
not_off_at = refl

another_is_not_off : calls_hold_off (Repaired (name 1) 500 ∷ []) (name 2) 450 ≡ false
another_is_not_off = refl

-- the longer one holds off
off_by_the_longer : calls_hold_off (Repaired (name 1) 500 ∷ Repaired (name 1) 400 ∷ []) (name 1) 450 ≡ true
off_by_the_longer = refl

not_free : is_free (SetFix 5000000 (fix 1 100000 100000) ∷ []) (name 1) 6000000 ≡ false
not_free = refl

not_free_while_off : is_free (Repaired (name 1) 500 ∷ []) (name 1) 450 ≡ false
not_free_while_off = refl

free_again : is_free (SetFix 5000000 (fix 1 100000 100000) ∷ Repaired (name 1) 5399999 ∷ []) (name 1) 5399999 ≡ true
free_again = refl

three_distances : repair_holds_until 5099999 (7 ∷ 100000 ∷ []) (Asked (name 1) 1 ∷ []) (name 1) ≡ 5399999
three_distances = refl

by_the_first_of_two : repair_holds_until 10 (5 ∷ 7 ∷ 9 ∷ []) (Asked (name 1) 2 ∷ Asked (name 1) 1 ∷ []) (name 1) ≡ 37
by_the_first_of_two = refl

both_are_held_off : repair_calls 10 (5 ∷ 7 ∷ []) (Asked (name 1) 1 ∷ []) (name 1 ∷ name 2 ∷ []) ≡ Repaired (name 1) 31 ∷ Repaired (name 2) 25 ∷ []
both_are_held_off = refl

-- ---- random numbers

next_word : next_listed (5 ∷ 7 ∷ []) ≡ (5, 7 ∷ [])
next_word = refl

last_word : next_listed (7 ∷ []) ≡ (7, [])
last_word = refl

after_the_last : next_listed [] ≡ (0, [])
after_the_last = refl
