use Rattle.std.proofs.Common.{take}
use Rattle.srm_guard.proofs.Comparing.{Tells}
use Rattle.srm_guard.proofs.key.is_same.Given as goal

abbrev pub invariant-loop-index : goal.invariant-loop-index
invariant-loop-index l = Tells l.differing (take l.index l.one) (take l.index l.other)
