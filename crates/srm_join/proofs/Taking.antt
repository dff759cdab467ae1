-- An agent takes what a room has for its members.
use Rattle.std.proofs.Common.{◌≡◌, ℕ, List, [], ◌∷◌, length, map, suc, refl, ap, sym, ◌∙◌}
use Rattle.std.specs.Prelude.{option_map, slice_get}
use Rattle.std.proofs.lemmas.Option.{slice_get-map}
use Rattle.srm_room.specs.Rooms.{Person, person}
use Rattle.srm_room.specs.declared.room_member.RoomMember.{RoomMember}
use Rattle.srm_join.specs.Joining.{TakesSettings}

pub people_count : (ms : List RoomMember) → length (map person ms) ≡ length ms
people_count [] = refl
people_count (m ∷ ms) = ap suc (people_count ms)

-- the member at a place of those that a room has
pub person_at : (ms : List RoomMember) (people : List Person) (place : ℕ) → map person ms ≡ people → option_map person (slice_get ms place) ≡ slice_get people place
person_at ms people place are = sym (slice_get-map person ms place) ∙ ap (λ (ps : List Person). slice_get ps place) are

pub takes : TakesSettings
takes r me room below = let s = room.settings in record {
  in_roster = below;
  members = room.people.count.1;
  least_rate = s.rate.0;
  greatest_rate = s.rate.1;
  least_depth = s.depth.0;
  greatest_depth = s.depth.1;
  c1 = s.c1;
  c2 = s.c2;
  d1 = s.d1;
  d2 = s.d2;
  shortest_distance = s.least_distance.0;
  longest_distance = s.least_distance.1;
}
