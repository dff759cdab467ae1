use Rattle.std.proofs.Common.{◌≡◌, ◌++◌, drop, map}
use Rattle.srm_room.specs.Rooms.{person}
use Rattle.srm_options.specs.MemberNames.{names_of, said}
use Rattle.srm_options.proofs.names.names_in.Given as goal

-- the names so far, and those of the members left, are those of all
abbrev pub invariant-loop-member : goal.invariant-loop-member
invariant-loop-member l = said l.names.items ++ names_of (map person (drop l.member-index l.members)) ≡ names_of (map person l.members)
