-- The definitions at worked examples. Member 0 is the one that hears, unless said.
use Rattle.std.specs.Prelude.{◌≡◌, ℕ, [], ◌∷◌, Some, None, refl}
use Rattle.srm_names.specs.declared.echo.Echo.{Echo}
use Rattle.srm_distance.specs.Calls.{DistanceCall, Heard, Forgot}
use Rattle.srm_distance.specs.Distance.{distance}
use Rattle.srm_distance.specs.Echoes.{echoes_owed}

-- member 1 echoes the message sent at t1, having had it for some time, and this is heard at a moment
abbrev echoed : (t1 delay now : ℕ) → DistanceCall
echoed t1 delay now = Heard 1 0 (Some (t1, delay)) now

-- a session message of a member with no echo
abbrev silent : (from sent now : ℕ) → DistanceCall
silent from sent now = Heard from sent None now

-- distances
before_the_first : distance 1 [] 0 1 ≡ 100000
before_the_first = refl

to_oneself : distance 1 (echoed 1000000 30000 1110000 ∷ []) 1 1 ≡ 0
to_oneself = refl

halved : distance 1 (echoed 1000000 30000 1110000 ∷ []) 0 1 ≡ 40000
halved = refl

rounded_down : distance 1 (echoed 1000000 30000 1110001 ∷ []) 0 1 ≡ 40000
rounded_down = refl

at_least_one : distance 1 (echoed 1000000 30000 1030001 ∷ []) 0 1 ≡ 1
at_least_one = refl

shorter_than_the_delay : distance 1 (echoed 1000000 30000 1020000 ∷ []) 0 1 ≡ 1
shorter_than_the_delay = refl

at_most_ten_seconds : distance 1 (echoed 1000000 30000 21030002 ∷ []) 0 1 ≡ 10000000
at_most_ten_seconds = refl

same_echo_later : distance 1 (echoed 1000000 30000 1110000 ∷ echoed 1000000 30000 1111000 ∷ []) 0 1 ≡ 40000
same_echo_later = refl

newer_echo : distance 1 (echoed 1000000 30000 1110000 ∷ echoed 1000001 0 1111001 ∷ []) 0 1 ≡ 55500
newer_echo = refl

older_echo : distance 1 (echoed 1000001 0 1111001 ∷ echoed 1000000 30000 1112000 ∷ []) 0 1 ≡ 55500
older_echo = refl

to_come : distance 1 (echoed 900001 0 900000 ∷ []) 0 1 ≡ 100000
to_come = refl

of_this_moment : distance 1 (echoed 900000 0 900000 ∷ []) 0 1 ≡ 1
of_this_moment = refl

sent_at_zero : distance 1 (echoed 0 0 200 ∷ []) 0 1 ≡ 100
sent_at_zero = refl

of_another_member : distance 1 (echoed 1000000 30000 1110000 ∷ []) 0 2 ≡ 100000
of_another_member = refl

forgotten_is_still_there : distance 1 (echoed 1000000 30000 1110000 ∷ Forgot 1 ∷ []) 0 1 ≡ 40000
forgotten_is_still_there = refl

-- with a floor
near_with_a_floor : distance 5000 (echoed 1000000 30000 1030001 ∷ []) 0 1 ≡ 5000
near_with_a_floor = refl

far_with_a_floor : distance 5000 (echoed 1000000 30000 1110000 ∷ []) 0 1 ≡ 40000
far_with_a_floor = refl

unknown_with_a_floor : distance 5000 [] 0 1 ≡ 100000
unknown_with_a_floor = refl

unknown_with_a_floor_above_it : distance 200000 [] 0 1 ≡ 200000
unknown_with_a_floor_above_it = refl

farthest_with_the_greatest_floor : distance 10000000 (echoed 1000000 30000 21030002 ∷ []) 0 1 ≡ 10000000
farthest_with_the_greatest_floor = refl

to_oneself_with_a_floor : distance 5000 [] 1 1 ≡ 0
to_oneself_with_a_floor = refl

-- echoes
abbrev echo : (member t1 delay : ℕ) → Echo
echo member t1 delay = record { member = member; t1 = t1; delay = delay }

nothing_heard : echoes_owed [] 0 800000 ≡ []
nothing_heard = refl

newest_by_sending : echoes_owed (silent 1 500000 600000 ∷ silent 1 400000 700000 ∷ []) 0 800000 ≡ echo 1 500000 200000 ∷ []
newest_by_sending = refl

first_of_equals : echoes_owed (silent 1 500000 600000 ∷ silent 1 500000 700000 ∷ []) 0 800000 ≡ echo 1 500000 200000 ∷ []
first_of_equals = refl

in_order_of_member : echoes_owed (silent 31 7 10 ∷ silent 2 5 11 ∷ []) 0 20 ≡ echo 2 5 9 ∷ echo 31 7 10 ∷ []
in_order_of_member = refl

none_to_oneself : echoes_owed (silent 0 5 10 ∷ silent 1 5 10 ∷ []) 0 20 ≡ echo 1 5 10 ∷ []
none_to_oneself = refl

message_sent_at_zero : echoes_owed (silent 1 0 10 ∷ []) 0 20 ≡ echo 1 0 10 ∷ []
message_sent_at_zero = refl

none_to_the_forgotten : echoes_owed (silent 1 5 10 ∷ Forgot 1 ∷ silent 1 6 11 ∷ silent 2 5 10 ∷ []) 0 20 ≡ echo 2 5 10 ∷ []
none_to_the_forgotten = refl
