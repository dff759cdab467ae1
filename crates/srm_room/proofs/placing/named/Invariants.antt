use Rattle.std.proofs.Common.{◌≡◌, drop, map}
use Rattle.srm_room.specs.Rooms.{person}
use Rattle.srm_room.specs.Places.{named_from}
use Rattle.srm_room.proofs.placing.named.Given as goal

-- what is left, counted from here, has the place that all have
abbrev pub invariant-loop-member : goal.invariant-loop-member
invariant-loop-member l = (l.place ≡ l.member-index) × (named_from l.place (map person (drop l.member-index l.members)) l.name ≡ named_from 0 (map person l.members) l.name)
