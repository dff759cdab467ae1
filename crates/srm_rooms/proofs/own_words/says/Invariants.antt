use Rattle.std.proofs.Common.{◌≡◌, drop}
use Rattle.srm_rooms.specs.RoomLines.{says, texts}
use Rattle.srm_rooms.proofs.own_words.says.Given as goal

abbrev pub invariant-loop-word : goal.invariant-loop-word
invariant-loop-word l = says (texts (drop l.word-index l.own)) l.option ≡ says (texts l.own) l.option
