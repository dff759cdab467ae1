use Rattle.std.proofs.Common.{◌≡◌, ◌++◌, drop}
use Rattle.srm_options.specs.MemberNames.{said}
use Rattle.srm_rooms.specs.RoomLines.{texts}
use Rattle.srm_rooms.proofs.in_room.texts_of.Given as goal

abbrev pub invariant-loop-word : goal.invariant-loop-word
invariant-loop-word l = texts l.refs.items ++ said (drop l.word-index l.words) ≡ said l.words
