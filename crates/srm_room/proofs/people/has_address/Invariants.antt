use Rattle.std.proofs.Common.{◌≡◌, drop, map}
use Rattle.srm_room.specs.Rooms.{has_address, person}
use Rattle.srm_room.proofs.people.has_address.Given as goal

abbrev pub invariant-loop-member : goal.invariant-loop-member
invariant-loop-member l = has_address (map person (drop l.member-index l.members)) l.address ≡ has_address (map person l.members) l.address
