-- Lines that name a room, in examples.
use Rattle.std.specs.Prelude.{◌≡◌, true, false, refl, codes, [], ◌∷◌, map, replicate, Some, None}
use Rattle.std.proofs.Common.{inl, inr}
use Rattle.std.specs.Fmt.{digits}
use Rattle.srm_room.specs.Rooms.{Content, person_of}
use Rattle.srm_rooms.specs.RoomLines.{TakesOut, are_own, shared_words, usual_words, words_of}

abbrev our_room : Content
our_room = record {
  session = 7;
  key = replicate 16 0;
  people = person_of (codes "ada") (codes "192.0.2.7:47100") ∷ person_of (codes "grace") (codes "192.0.2.9:47100") ∷ [];
  settings = record { c1 = 2; c2 = 3; d1 = 1; d2 = 4; least_distance = 5000; rate = 64000; depth = 4204; linger = 2000000; most_missing = 9 };
}

-- ---- what a line stands for

of_a_live_member : words_of our_room 1 true (codes "--live" ∷ []) ≡
    codes "--session" ∷ codes "7" ∷ codes "--me" ∷ codes "1" ∷ codes "--waits" ∷ codes "2,3,1,4" ∷ codes "--least-distance" ∷ codes "5000"
    ∷ codes "--rate" ∷ codes "64000" ∷ codes "--depth" ∷ codes "4204" ∷ codes "--linger" ∷ codes "2000000" ∷ codes "--most-missing" ∷ codes "9"
    ∷ codes "192.0.2.7:47100" ∷ codes "192.0.2.9:47100" ∷ codes "--live" ∷ []
unfolding digits words_of shared_words usual_words
of_a_live_member = refl

-- what the line says itself isn't said by the room, and who isn't live doesn't linger
with_words_of_its_own : words_of our_room 0 false (codes "--rate=9" ∷ codes "--depth" ∷ codes "2000" ∷ []) ≡
    codes "--session" ∷ codes "7" ∷ codes "--me" ∷ codes "0" ∷ codes "--waits" ∷ codes "2,3,1,4" ∷ codes "--least-distance" ∷ codes "5000"
    ∷ codes "--most-missing" ∷ codes "9" ∷ codes "192.0.2.7:47100" ∷ codes "192.0.2.9:47100" ∷ codes "--rate=9" ∷ codes "--depth" ∷ codes "2000" ∷ []
unfolding digits words_of shared_words usual_words
with_words_of_its_own = refl

-- ---- what it may say

own_words : are_own false (codes "--live" ∷ codes "--record" ∷ codes "one.record" ∷ codes "--rate=9" ∷ []) ≡ true
own_words = refl

no_session : map (are_own false) ((codes "--session" ∷ codes "8" ∷ []) ∷ (codes "--session=8" ∷ []) ∷ (codes "--key" ∷ codes "our.key" ∷ []) ∷ []) ≡ false ∷ false ∷ false ∷ []
no_session = refl

no_address : are_own false (codes "--live" ∷ codes "192.0.2.7:47100" ∷ []) ≡ false
no_address = refl

-- ---- the room

in_two_words : TakesOut (codes "--room") (codes "--live" ∷ codes "--room" ∷ codes "our.room" ∷ codes "--rate" ∷ []) (Some (codes "our.room")) (codes "--live" ∷ codes "--rate" ∷ [])
in_two_words = (codes "--live" ∷ [], codes "--room" ∷ codes "our.room" ∷ [], codes "--rate" ∷ [], refl, inl refl, refl)

in_one_word : TakesOut (codes "--room") (codes "--room=our.room" ∷ []) (Some (codes "our.room")) []
in_one_word = ([], codes "--room=our.room" ∷ [], [], refl, inr refl, refl)
