use Rattle.srm_deadlines.specs.MomentLists.{IsLeastIn}
use Rattle.srm_deadlines.proofs.moment_list.least_in.Given as goal

abbrev pub invariant-loop-i : goal.invariant-loop-i
invariant-loop-i l = IsLeastIn l.moments l.low l.i l.least
