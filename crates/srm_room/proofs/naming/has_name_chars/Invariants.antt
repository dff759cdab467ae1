use Rattle.std.specs.Str.Iter.{chars_rest}
use Rattle.srm_room.specs.Rooms.{is_name_char}
use Rattle.srm_room.proofs.Letters.{AllSoFar}
use Rattle.srm_room.proofs.naming.has_name_chars.Given as goal

abbrev pub invariant-loop-c : goal.invariant-loop-c
invariant-loop-c l =
    (goal.iterator-loop-c).can_next l.rest × (goal.iterator-loop-c).is_finite l.rest
    × AllSoFar is_name_char l.text (chars_rest l.rest)
