use Rattle.std.proofs.Common.{◌≡◌, ◌++◌, length}
use Rattle.srm_rooms.specs.RoomLines.{texts}
use Rattle.srm_rooms.proofs.room_lines.split.Given as goal

abbrev pub invariant-loop-rest : goal.invariant-loop-rest
invariant-loop-rest l = texts l.others.items ++ texts l.rest ≡ texts l.words

abbrev pub decreases-loop-rest : goal.decreases-loop-rest
decreases-loop-rest l = length l.rest
