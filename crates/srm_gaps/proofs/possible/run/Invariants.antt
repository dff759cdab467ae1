use Rattle.srm_gaps.specs.Orders.{Comes, calls_left}
use Rattle.srm_gaps.proofs.possible.run.Given as goal

abbrev pub invariant-loop : goal.invariant-loop
invariant-loop l = Comes l.told l.order

abbrev pub decreases-loop : goal.decreases-loop
decreases-loop l = calls_left l.told 0 l.order.counts
