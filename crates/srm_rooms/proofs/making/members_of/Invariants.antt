use Rattle.std.proofs.Common.{◌≡◌, ◌++◌, drop, map}
use Rattle.srm_room.specs.Rooms.{person}
use Rattle.srm_rooms.specs.Made.{people_of}
use Rattle.srm_rooms.proofs.making.members_of.Given as goal

-- the members so far, and those of the pairs left, are those of all
abbrev pub invariant-loop-pair : goal.invariant-loop-pair
invariant-loop-pair l = map person l.members.items ++ people_of (drop l.pair-index l.pairs) ≡ people_of l.pairs
