use Rattle.std.proofs.Common.{map, length}
use Rattle.srm_node.specs.Hosting.{AreEndsOfLanes}
use Rattle.srm_member.specs.WholeRuns.{TakePrefixes}
use Rattle.srm_member.proofs.joining.settle_lanes.Given as goal

abbrev pub invariant-loop-worked : goal.invariant-loop-worked
invariant-loop-worked l = record {
  ends : AreEndsOfLanes l.feeds.items (map (λ w. w.tap) l.left.items);
  takes : TakePrefixes l.feeds.items (map (λ w. w.tap) l.left.items) → TakePrefixes l.initial.feeds.items (map (λ w. w.tap) l.initial.left.items);
}

abbrev pub decreases-loop-worked : goal.decreases-loop-worked
decreases-loop-worked l = length l.left.items
