use Rattle.srm_gaps.proofs.Ordering.{TriesSo}
use Rattle.srm_gaps.proofs.possible.try_each.Given as goal

abbrev pub invariant-loop-one : goal.invariant-loop-one
invariant-loop-one l = TriesSo l.told l.one-index l.fn.order l.order l.moved
