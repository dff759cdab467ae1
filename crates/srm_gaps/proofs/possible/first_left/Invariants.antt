use Rattle.std.proofs.Common.{take}
use Rattle.std.specs.Prelude.{MatchOption}
use Rattle.srm_gaps.specs.Orders.{NoneLeft, IsFirstLeft}
use Rattle.srm_gaps.proofs.possible.first_left.Given as goal

abbrev pub invariant-loop-one : goal.invariant-loop-one
invariant-loop-one l = MatchOption l.first (NoneLeft (take l.one-index l.told) l.told l.order) (IsFirstLeft (take l.one-index l.told) l.told l.order)
