use Rattle.std.specs.Str.Iter.{chars_rest}
use Rattle.std.specs.Char.{is_ascii_digit}
use Rattle.srm_room.proofs.Letters.{AllSoFar}
use Rattle.srm_room.proofs.naming.is_number.Given as goal

abbrev pub invariant-loop-c : goal.invariant-loop-c
invariant-loop-c l =
    (goal.iterator-loop-c).can_next l.rest × (goal.iterator-loop-c).is_finite l.rest
    × AllSoFar is_ascii_digit l.text (chars_rest l.rest)
