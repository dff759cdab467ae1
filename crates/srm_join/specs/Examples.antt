-- The definitions at worked examples.
use Rattle.std.specs.Prelude.{◌≡◌, ◌∷◌, [], codes, replicate, refl}
use Rattle.std.proofs.Common.{arith}
use Rattle.srm_guard.specs.Seals.{SealView}
use Rattle.srm_room.specs.Rooms.{Content, person_of}
use Rattle.srm_join.specs.Joining.{config_in}
use Rattle.srm_join.specs.Sealing.{SealsInto}
use Rattle.srm_join.specs.declared.sealing.Sealed.TheVariants.{Short, UsedUp}

-- ---- the settings of the second of two members

abbrev our_room : Content
our_room = record {
  session = 7;
  key = replicate 16 0;
  people = person_of (codes "ada") (codes "192.0.2.7:47100") ∷ person_of (codes "grace") (codes "192.0.2.9:47100") ∷ [];
  settings = record { c1 = 2; c2 = 3; d1 = 1; d2 = 4; least_distance = 5000; rate = 64000; depth = 4204; linger = 2000000; most_missing = 9 };
}

hers : config_in our_room 1 ≡ record { me = 1; members = 2; session = 7; rate = 64000; depth = 4204; c1 = 2; c2 = 3; d1 = 1; d2 = 4; least_distance = 5000 }
hers = refl

-- ---- a datagram of two bytes, which takes 27 when it is sealed

abbrev seal_of_ada : SealView
seal_of_ada = record { key = replicate 16 0; me = 0; next = replicate 32 18446744073709551615; windows = [] }

too_long : SealsInto 1 (8 ∷ 9 ∷ []) (replicate 26 0) (replicate 26 0) (Short 27) seal_of_ada seal_of_ada
too_long = (refl, omega arith, refl, refl)

used_up : SealsInto 1 (8 ∷ 9 ∷ []) (replicate 27 0) (replicate 27 0) UsedUp seal_of_ada seal_of_ada
used_up = (omega arith, refl, refl, refl)
