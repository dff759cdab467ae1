-- The definitions at worked examples: how long timers wait, when they end, and what is then requested and repaired.
use Rattle.std.specs.Prelude.{◌≡◌, ℕ, ◌-◌, List, [], ◌∷◌, ◌++◌, map, replicate, true, false, Option, Some, None, option_map, refl}
use Rattle.srm_names.specs.declared.drawop.Drawop.{Drawop}
use Rattle.srm_names.specs.Names.{first_page, named, names_up_to}
use Rattle.srm_codec.specs.declared.datagram.Datagram.{Datagram}
use Rattle.srm_codec.specs.declared.datagram.Datagram.TheVariants.{Data, Request, Repair, Session}
use Rattle.srm_codec.specs.Spelling.{bits_set, length_of}
use Rattle.srm_bucket.specs.declared.class.Class.TheVariants.{Shown}
use Rattle.srm_timers.specs.declared.arm.Arm.{Arm}
use Rattle.srm_timers.specs.declared.arm.Armed.{Armed}
use Rattle.srm_timers.specs.declared.arm.ArmKind.TheVariants.{Ask}
use Rattle.srm_timers.specs.Arms.{AreChosen, runs_out_at, ignored_until}
use Rattle.srm_timers.specs.ListedWords.{next_listed}
use Rattle.srm_entries.specs.Configs.{Config}
use Rattle.srm_entries.specs.declared.entry.Entry.{Entry}
use Rattle.srm_entries.specs.declared.entry.Verdict.TheVariants.{Done}
use Rattle.srm_entries.specs.Entries.{is_missing}
use Rattle.srm_entries.specs.Timers.{basis_of, last_ask, ask_due, fix_due, fix_running, held_off, first_asker, low_of, high_of}
use Rattle.srm_entries.specs.Verdicts.{verdict_of}
use Rattle.srm_entries.specs.Sessions.{session_message_due, session_due}
use Rattle.srm_entries.specs.Packing.{packed}
use Rattle.srm_entries.specs.Bucket.{classed, idle}
use Rattle.srm_entries.specs.Sample.{first_stream, drawop_of, hears, ticks, ask_arm, fix_arm, ask_set, fix_set, at_each, let_go, gap, in_roster, one_of_four, asked}

-- all random numbers of a list go to the waits of these timers
abbrev WaitsBy : Config → List Arm → List ℕ → Type 0
WaitsBy c arms words = AreChosen next_listed (low_of c) (high_of c) words arms []

-- the wait is the random number's remainder above the lower end
first_wait : WaitsBy one_of_four (ask_arm 1 0 200000 ∷ []) (0 ∷ [])
first_wait = (refl, refl)

longest_wait : WaitsBy one_of_four (ask_arm 1 0 400000 ∷ []) (200000 ∷ [])
longest_wait = (refl, refl)

from_the_start_again : WaitsBy one_of_four (ask_arm 1 0 200000 ∷ []) (200001 ∷ [])
from_the_start_again = (refl, refl)

abbrev near_arm : ℕ → ℕ → ℕ → Arm
near_arm number exponent wait = record { kind = Ask; name = named first_stream number; exponent = exponent; distance = 1; wait = wait }

-- one random number for each arm
near_waits : WaitsBy one_of_four (near_arm 1 0 2 ∷ near_arm 2 0 3 ∷ near_arm 3 0 4 ∷ near_arm 4 0 2 ∷ []) (0 ∷ 1 ∷ 2 ∷ 3 ∷ [])
near_waits = (refl, (refl, (refl, (refl, refl))))

odd_wait : WaitsBy one_of_four (near_arm 1 1 5 ∷ []) (1 ∷ [])
odd_wait = (refl, refl)

half_of_an_odd_wait : ignored_until (record { set = 10; arm = near_arm 1 1 5 }) ≡ 12
half_of_an_odd_wait = refl

-- a gap, and two requests of another member: the second comes before the ignore moment, or at it
abbrev backed_off : List Entry
backed_off = gap ∷ asked 1050000 (ask_arm 1 1 400000 ∷ []) ∷ []

abbrev ends : List Entry → List (Option (ℕ × ℕ))
ends es = option_map (λ (a : Armed). (runs_out_at a, ignored_until a)) (last_ask es (named first_stream 1)) ∷ []

end_of_the_first : ends (gap ∷ []) ≡ Some (1200000, 1100000) ∷ []
end_of_the_first = refl

end_after_a_request : ends backed_off ≡ Some (1450000, 1250000) ∷ []
end_after_a_request = refl

end_stays_when_ignored : ends (backed_off ++ asked 1249999 [] ∷ []) ≡ Some (1450000, 1250000) ∷ []
end_stays_when_ignored = refl

ignored_and_still_taken : verdict_of one_of_four backed_off (asked 1249999 []).input ≡ Done
unfolding bits_set
ignored_and_still_taken = refl

end_after_both : ends (backed_off ++ asked 1250000 (ask_arm 1 2 800000 ∷ []) ∷ []) ≡ Some (2050000, 1650000) ∷ []
end_after_both = refl

-- a request timer at each end: the wait doubles, up to exponent 8
abbrev asks_at : ℕ → ℕ → ℕ → Entry
asks_at now exponent wait = ticks 1 now (named first_stream 1 ∷ []) [] (ask_arm 1 exponent wait ∷ []) []

abbrev never_gained : List Entry
never_gained = gap ∷ asks_at 1200000 1 400000 ∷ asks_at 1600000 2 800000 ∷ asks_at 2400000 3 1600000 ∷ asks_at 4000000 4 3200000 ∷ asks_at 7200000 5 6400000
    ∷ asks_at 13600000 6 12800000 ∷ asks_at 26400000 7 25600000 ∷ asks_at 52000000 8 51200000 ∷ asks_at 103200000 8 51200000 ∷ []

exponents : at_each (λ s. basis_of one_of_four s.before s.this (named first_stream 1)) never_gained ≡ map ask_set (0 ∷ 1 ∷ 2 ∷ 3 ∷ 4 ∷ 5 ∷ 6 ∷ 7 ∷ 8 ∷ 8 ∷ [])
exponents = refl

due_at_each_end : at_each (λ s. ask_due s.before (named first_stream 1) s.this.moment) never_gained ≡ false ∷ replicate 9 true
due_at_each_end = refl

never_sooner : at_each (λ s. ask_due s.before (named first_stream 1) (s.this.moment - 1)) never_gained ≡ replicate 10 false
never_sooner = refl

waits_doubled : map (λ i. low_of one_of_four (ask_arm 1 i 0)) (0 ∷ 1 ∷ 2 ∷ 3 ∷ 4 ∷ 5 ∷ 6 ∷ 7 ∷ 8 ∷ [])
    ≡ 200000 ∷ 400000 ∷ 800000 ∷ 1600000 ∷ 3200000 ∷ 6400000 ∷ 12800000 ∷ 25600000 ∷ 51200000 ∷ []
waits_doubled = refl

-- without waits a name is asked for at each tick, once in each
abbrev hasty : Config
hasty = record one_of_four { c1 = 0; c2 = 0 }

no_wait : map (high_of hasty) (ask_arm 1 0 0 ∷ ask_arm 1 8 0 ∷ []) ≡ 0 ∷ 0 ∷ []
no_wait = refl

abbrev at_once : List Entry
at_once = hears 1 5 (Data (drawop_of 2 0 [])) (ask_arm 1 0 0 ∷ []) ∷ asks_at 5 1 0 ∷ asks_at 5 2 0 ∷ asks_at 6 3 0 ∷ []

asked_at_each_tick : at_each (λ s. ask_due s.before (named first_stream 1) s.this.moment) at_once ≡ false ∷ true ∷ true ∷ true ∷ []
asked_at_each_tick = refl

-- a request for what isn't known shows that it exists, and all before it
request_for_the_third : map (basis_of one_of_four [] (hears 1 1000000 (Request 2 (named first_stream 3) 0) [])) (names_up_to first_stream 4) ≡ ask_set 0 ∷ ask_set 0 ∷ ask_set 1 ∷ None ∷ []
unfolding bits_set
request_for_the_third = refl

-- the tick before sends the session message, and this one the request
abbrev session_message : Datagram
session_message = Session 1 1199999 false first_page (named first_stream 2 ∷ []) []

abbrev says_it : List Entry
says_it = gap ∷ ticks 1 1199999 [] [] [] (session_message ∷ []) ∷ []

abbrev asks_for_it : Entry
asks_for_it = ticks 1 1200000 (named first_stream 1 ∷ []) [] (ask_arm 1 1 400000 ∷ []) (Request 1 (named first_stream 1) 0 ∷ [])

sends_at_the_end : map length_of (session_message ∷ Request 1 (named first_stream 1) 0 ∷ []) ≡ 31 ∷ 17 ∷ []
sends_at_the_end = refl

sends_it_then_asks : at_each (λ s. session_message_due one_of_four 0 s.before s.this) (says_it ++ asks_for_it ∷ []) ≡ None ∷ Some false ∷ None ∷ []
sends_it_then_asks = refl

next_message : session_due one_of_four 0 says_it ≡ 2199999
next_message = refl

request_goes : let_go one_of_four (map idle says_it ++ record { entry = asks_for_it; goes = classed Shown (Request 1 (named first_stream 1) 0) ∷ [] } ∷ [])
    ≡ None ∷ Some (classed Shown (Request 1 (named first_stream 1) 0)) ∷ None ∷ []
request_goes = refl

-- four missing names go in one request, and then the session message that is due
abbrev four_missing : List Entry
four_missing = hears 1 1000000 (Data (drawop_of 5 0 [])) (map (λ k. ask_arm k 0 200000) (1 ∷ 2 ∷ 3 ∷ 4 ∷ [])) ∷ []

four_due : map (λ n. ask_due four_missing n 1200000) (names_up_to first_stream 5) ≡ true ∷ true ∷ true ∷ true ∷ false ∷ []
four_due = refl

in_one_request : packed 1 (names_up_to first_stream 4) ≡ Request 1 (named first_stream 1) 7 ∷ []
in_one_request = refl

message_is_due : session_message_due one_of_four 0 four_missing (ticks 1 1200000 (names_up_to first_stream 4) [] [] []) ≡ Some false
message_is_due = refl

-- the largest jump: all numbers below it are missing
abbrev far_off : Entry
far_off = hears 1 1 (Data (drawop_of 65536 0 [])) []

all_below_missing : map (λ k. is_missing (far_off ∷ []) (named first_stream k)) (0 ∷ 1 ∷ 65535 ∷ 65536 ∷ 65537 ∷ []) ≡ false ∷ true ∷ true ∷ false ∷ false ∷ []
all_below_missing = refl

all_below_armed : map (λ k. basis_of one_of_four [] far_off (named first_stream k)) (0 ∷ 1 ∷ 65535 ∷ 65536 ∷ 65537 ∷ []) ≡ None ∷ ask_set 0 ∷ ask_set 0 ∷ None ∷ None ∷ []
all_below_armed = refl

-- a repair is armed, cancelled by a third member's, and armed again once it isn't held off
abbrev one : Drawop
one = drawop_of 1 0 []

abbrev asked_of_2 : ℕ → List Arm → Entry
asked_of_2 now arms = hears 2 now (Request 1 (named first_stream 1) 0) arms

abbrev cancelled : List Entry
cancelled = hears 2 1 (Data one) [] ∷ asked_of_2 5000000 (fix_arm 1 100000 ∷ []) ∷ hears 2 5099999 (Repair 3 one) [] ∷ []

abbrev armed_again : List Entry
armed_again = cancelled ++ asked_of_2 5399998 [] ∷ asked_of_2 5399999 (fix_arm 1 100000 ∷ []) ∷ []

repairs_armed : at_each (λ s. basis_of (in_roster 2 4 4204) s.before s.this (named first_stream 1)) armed_again ≡ None ∷ fix_set ∷ None ∷ None ∷ fix_set ∷ []
unfolding bits_set
repairs_armed = refl

second_end : option_map runs_out_at (fix_running armed_again (named first_stream 1)) ≡ Some 5499999
second_end = refl

repaired_in_time : map (fix_due armed_again (named first_stream 1)) (5100000 ∷ 5499998 ∷ 5499999 ∷ []) ≡ false ∷ false ∷ true ∷ []
repaired_in_time = refl

-- each name of a request has its first asker, held or not, and not the numbers between
first_askers : map (first_asker (hears 2 1 (Request 3 (named first_stream 1) 2) [] ∷ hears 2 2 (Request 1 (named first_stream 1) 3) [] ∷ [])) (names_up_to first_stream 4) ≡ 3 ∷ 1 ∷ 3 ∷ 0 ∷ []
unfolding bits_set
first_askers = refl

-- nothing holds off what one drew oneself before another asks: the first asker is then oneself, at no distance
own_is_not_held_off : held_off (in_roster 0 4 4204) (hears 0 10 (Repair 2 one) [] ∷ []) (named first_stream 1) 10 ≡ false
own_is_not_held_off = refl
