use Rattle.std.specs.Str.Iter.{chars_rest}
use Rattle.srm_room.proofs.Letters.{CountSoFar}
use Rattle.srm_room.proofs.naming.is_short.Given as goal

abbrev pub invariant-loop-c : goal.invariant-loop-c
invariant-loop-c l =
    (goal.iterator-loop-c).can_next l.rest × (goal.iterator-loop-c).is_finite l.rest
    × CountSoFar l.text (chars_rest l.rest) l.count
