use Rattle.std.proofs.Common.{◌≡◌, ◌++◌, length}
use Rattle.srm_live.proofs.typing_thread.all_done.Given as goal

abbrev pub invariant-loop-pen : goal.invariant-loop-pen
invariant-loop-pen l = l.fn.pens.items ≡ l.inked.items ++ l.left.items

abbrev pub decreases-loop-pen : goal.decreases-loop-pen
decreases-loop-pen l = length l.left.items
