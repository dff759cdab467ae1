use Rattle.std.proofs.Common.{take, length}
use Rattle.std.specs.List.{AllByRecursion}
use Rattle.srm_gaps.specs.Gaps.{IsComplete}
use Rattle.srm_gaps.proofs.told.are_complete.Given as goal

abbrev pub invariant-loop-one : goal.invariant-loop-one
invariant-loop-one l = AllByRecursion (IsComplete (length l.told)) (take l.one-index l.told)
