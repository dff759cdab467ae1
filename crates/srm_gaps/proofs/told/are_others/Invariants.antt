use Rattle.std.proofs.Common.{take}
use Rattle.std.specs.List.{AllByRecursion}
use Rattle.srm_gaps.specs.Gaps.{IsAnother}
use Rattle.srm_gaps.proofs.told.are_others.Given as goal

abbrev pub invariant-loop-other : goal.invariant-loop-other
invariant-loop-other l = AllByRecursion (IsAnother l.one) (take l.other-index l.others)
