use Rattle.std.proofs.Common.{◌≡◌, ◌++◌, drop}
use Rattle.srm_options.specs.MemberNames.{said}
use Rattle.srm_rooms.specs.RoomLines.{texts}
use Rattle.srm_rooms.proofs.room_words.push_own.Given as goal

abbrev pub invariant-loop-word : goal.invariant-loop-word
invariant-loop-word l = said l.words.items ++ texts (drop l.word-index l.own) ≡ said l.fn.words.items ++ texts l.own
