use Rattle.std.proofs.Common.{◌≡◌, ℕ, ◌<◌, ◌≤◌, false}
use Rattle.srm_names.specs.Moments.{has_come}
use Rattle.srm_deadlines.specs.MomentLists.{item_at}
use Rattle.srm_deadlines.proofs.moment_list.first_in.Given as goal

abbrev pub invariant-loop-i : goal.invariant-loop-i
invariant-loop-i l = (k : ℕ) → l.low ≤ k → k < l.i → has_come l.now (item_at l.moments k) ≡ false
