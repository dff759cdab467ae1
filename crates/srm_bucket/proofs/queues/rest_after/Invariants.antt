use Rattle.std.proofs.Common.{◌≡◌}
use Rattle.std.specs.VecDeque.Iter.{deque_iter_rest}
use Rattle.srm_bucket.specs.Paying.{rest_after}
use Rattle.srm_bucket.proofs.queues.rest_after.Given as goal

abbrev pub invariant-loop-item : goal.invariant-loop-item
invariant-loop-item g l = rest_after l.rest (deque_iter_rest l.item-iterator) ≡ rest_after l.tokens l.items.items
