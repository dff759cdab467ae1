use Rattle.std.proofs.Common.{◌≡◌, true, length, take}
use Rattle.std.specs.List.{list_all}
use Rattle.srm_node.specs.Nodes.{has_nothing_more}
use Rattle.srm_node.proofs.ending.are_done.Given as goal

abbrev pub invariant-loop-slot : goal.invariant-loop-slot
invariant-loop-slot l = record {
  many : length l.closed ≡ length l.feeds;
  done : list_all has_nothing_more (take l.slot l.feeds) ≡ true;
}
