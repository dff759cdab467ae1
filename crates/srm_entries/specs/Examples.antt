-- The definitions at worked examples.
use Rattle.std.specs.Prelude.{◌≡◌, ℕ, List, [], ◌∷◌, ◌++◌, map, true, false, Some, None, option_map, refl}
use Rattle.srm_names.specs.declared.drawop.Drawop.{Drawop}
use Rattle.srm_names.specs.Names.{first_page, named, names_up_to, ascending, name_below}
use Rattle.srm_codec.specs.declared.datagram.Datagram.TheVariants.{Data, Request, Repair, Session}
use Rattle.srm_timers.specs.declared.arm.ArmKind.TheVariants.{Ask}
use Rattle.srm_codec.specs.Spelling.{bits_set}
use Rattle.srm_entries.specs.Configs.{Config, default_settings, config_with}
use Rattle.srm_entries.specs.declared.entry.Entry.{Entry}
use Rattle.srm_entries.specs.Distances.{distance}
use Rattle.srm_timers.specs.Arms.{wait_basis, arm_of}
use Rattle.srm_entries.specs.Sample.{in_roster, first_stream, drawop_of, hears, ticks, ask_arm, fix_arm, ask_set, fix_set, gap, asked}
use Rattle.srm_entries.specs.Timers.{basis_of, ask_due, fix_due, low_of, high_of}

abbrev config : ℕ → Config
config me = in_roster me 4 4204

-- these are the settings that most members take; another rate changes nothing else
of_most : config_with 2 4 1 default_settings ≡ config 2
of_most = refl

of_another_rate : config_with 2 4 1 (record default_settings { rate = 100000 }) ≡ record (config 2) { rate = 100000 }
of_another_rate = refl

-- a gap is found and asked for
gap_arms : map (basis_of (config 1) [] gap) (names_up_to first_stream 4) ≡ ask_set 0 ∷ None ∷ None ∷ None ∷ []
gap_arms = refl

not_yet : ask_due (gap ∷ []) (named first_stream 1) 1199999 ≡ false
not_yet = refl

then_due : map (λ n. ask_due (gap ∷ []) n 1200000) (names_up_to first_stream 4) ≡ true ∷ false ∷ false ∷ false ∷ []
then_due = refl

asks_again : basis_of (config 1) (gap ∷ []) (ticks 1 1200000 (named first_stream 1 ∷ []) [] [] []) (named first_stream 1) ≡ ask_set 1
asks_again = refl

-- a request of another backs it off, and one before the ignore moment does nothing
backed_off : basis_of (config 1) (gap ∷ []) (asked 1050000 []) (named first_stream 1) ≡ ask_set 1
unfolding bits_set
backed_off = refl

ignored : basis_of (config 1) (gap ∷ asked 1050000 (ask_arm 1 1 400000 ∷ []) ∷ []) (asked 1249999 []) (named first_stream 1) ≡ None
unfolding bits_set
ignored = refl

backed_off_again : basis_of (config 1) (gap ∷ asked 1050000 (ask_arm 1 1 400000 ∷ []) ∷ []) (asked 1250000 []) (named first_stream 1) ≡ ask_set 2
unfolding bits_set
backed_off_again = refl

-- a repair is armed, cancelled and held off
abbrev one : Drawop
one = drawop_of 1 0 []

abbrev holding : List Entry
holding = hears 2 1 (Data one) [] ∷ hears 2 5000000 (Request 1 (named first_stream 1) 0) (fix_arm 1 100000 ∷ []) ∷ []

fix_armed : basis_of (config 2) (hears 2 1 (Data one) [] ∷ []) (hears 2 5000000 (Request 1 (named first_stream 1) 0) []) (named first_stream 1) ≡ fix_set
unfolding bits_set
fix_armed = refl

fix_runs_out : fix_due holding (named first_stream 1) 5100000 ≡ true
fix_runs_out = refl

abbrev repaired : List Entry
repaired = holding ++ hears 2 5099999 (Repair 3 one) [] ∷ []

cancelled : fix_due repaired (named first_stream 1) 5100000 ≡ false
cancelled = refl

still_held_off : basis_of (config 2) repaired (hears 2 5399998 (Request 1 (named first_stream 1) 0) []) (named first_stream 1) ≡ None
unfolding bits_set
still_held_off = refl

held_off_no_more : basis_of (config 2) repaired (hears 2 5399999 (Request 1 (named first_stream 1) 0) []) (named first_stream 1) ≡ fix_set
unfolding bits_set
held_off_no_more = refl

-- an estimate of a distance
abbrev echoed : ℕ → Entry
echoed now = hears 1 now (Session 2 5 false first_page [] (record { member = 1; t1 = 1000000; delay = 30000 } ∷ [])) []

estimates : map (λ now. distance (config 1) (echoed now ∷ []) 2) (1110000 ∷ 1030001 ∷ 1020000 ∷ 21030002 ∷ 999999 ∷ []) ≡ 40000 ∷ 1 ∷ 1 ∷ 10000000 ∷ 100000 ∷ []
estimates = refl

first_counts : distance (config 1) (echoed 1110000 ∷ echoed 1200000 ∷ []) 2 ≡ 40000
first_counts = refl

-- a floor under distances: of what is near, of who was not heard, and of the timer that is set by it
abbrev floored : Config
floored = record (config 1) { least_distance = 250000 }

floors : map (λ now. distance floored (echoed now ∷ []) 2) (1110000 ∷ 21030002 ∷ 999999 ∷ []) ≡ 250000 ∷ 10000000 ∷ 250000 ∷ []
floors = refl

floored_timer : basis_of floored [] gap (named first_stream 1) ≡ Some (record { kind = Ask; exponent = 0; distance = 250000 })
floored_timer = refl

-- a packed request for 1 and 3, with nothing known
packed_heard : map (basis_of (config 1) [] (hears 1 1000000 (Request 2 (named first_stream 1) 2) [])) (names_up_to first_stream 4) ≡ ask_set 1 ∷ ask_set 0 ∷ ask_set 1 ∷ None ∷ []
unfolding bits_set
packed_heard = refl

-- a packed request for 1, 2 and 3 at a member that holds 1 and 3
abbrev holds_two : List Entry
holds_two = hears 2 1 (Data (drawop_of 1 0 [])) [] ∷ hears 2 2 (Data (drawop_of 3 0 [])) (ask_arm 2 0 200000 ∷ []) ∷ []

mixed : map (basis_of (config 2) holds_two (hears 2 10 (Request 1 (named first_stream 1) 3) [])) (names_up_to first_stream 3)
    ≡ fix_set ∷ ask_set 1 ∷ fix_set ∷ []
unfolding bits_set
mixed = refl

-- the waits that a timer may have: from 2 to 4 distances at first, doubled with each exponent
ask_waits : map (λ i. low_of (config 1) (ask_arm 1 i 0)) (0 ∷ 1 ∷ 8 ∷ []) ≡ 200000 ∷ 400000 ∷ 51200000 ∷ []
ask_waits = refl

ask_waits_at_most : map (λ i. high_of (config 1) (ask_arm 1 i 0)) (0 ∷ 1 ∷ 8 ∷ []) ≡ 400000 ∷ 800000 ∷ 102400000 ∷ []
ask_waits_at_most = refl

fix_waits : low_of (config 1) (fix_arm 1 0) ≡ 100000
fix_waits = refl

fix_waits_at_most : high_of (config 1) (fix_arm 1 0) ≡ 200000
fix_waits_at_most = refl

-- the timers of the gap, as a whole: waits and order
gap_in_order : ascending name_below (map (λ a. a.name) gap.effects.arms) ≡ true
gap_in_order = refl

-- in order of name, with none for a name that isn't missing
gap_exact : map (λ n. option_map wait_basis (arm_of n gap.effects.arms)) (names_up_to first_stream 4) ≡ map (basis_of (config 1) [] gap) (names_up_to first_stream 4)
gap_exact = refl
