use Rattle.srm_gaps.specs.Orders.{calls_left}
use Rattle.srm_gaps.proofs.Ordering.{GoesSo}
use Rattle.srm_gaps.proofs.possible.go_on.Given as goal

abbrev pub invariant-loop-moved : goal.invariant-loop-moved
invariant-loop-moved l = GoesSo l.told l.fn.order l.order l.moved

abbrev pub decreases-loop-moved : goal.decreases-loop-moved
decreases-loop-moved l = calls_left l.told 0 l.order.counts
