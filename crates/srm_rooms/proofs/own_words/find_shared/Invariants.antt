use Rattle.std.proofs.Common.{◌≡◌, false, drop}
use Rattle.srm_rooms.specs.RoomLines.{are_own, texts}
use Rattle.srm_rooms.proofs.own_words.find_shared.Given as goal

abbrev pub invariant-loop-word : goal.invariant-loop-word
invariant-loop-word l = are_own l.awaits (texts (drop l.word-index l.own)) ≡ are_own false (texts l.own)
