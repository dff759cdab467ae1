use Rattle.std.proofs.Common.{◌≡◌, drop}
use Rattle.srm_rooms.specs.InRoom.{is_live_line}
use Rattle.srm_rooms.specs.RoomLines.{texts}
use Rattle.srm_rooms.proofs.in_room.is_live.Given as goal

abbrev pub invariant-loop-word : goal.invariant-loop-word
invariant-loop-word l = is_live_line (texts (drop l.word-index l.words)) ≡ is_live_line (texts l.words)
