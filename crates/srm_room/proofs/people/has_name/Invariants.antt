use Rattle.std.proofs.Common.{◌≡◌, drop, map}
use Rattle.srm_room.specs.Rooms.{has_name, person}
use Rattle.srm_room.proofs.people.has_name.Given as goal

abbrev pub invariant-loop-member : goal.invariant-loop-member
invariant-loop-member l = has_name (map person (drop l.member-index l.members)) l.name ≡ has_name (map person l.members) l.name
