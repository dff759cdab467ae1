use Rattle.std.proofs.Common.{◌≡◌, replicate, None}
use Rattle.srm_store.proofs.finals.Finals.new.Given as goal

abbrev pub invariant-loop-member : goal.invariant-loop-member
invariant-loop-member l = l.settled.items ≡ replicate l._member None
