use Rattle.std.proofs.Common.{◌≡◌, take}
use Rattle.srm_node.specs.Counting.{was_ignored, count_up_to}
use Rattle.srm_node.proofs.counting.all_ignored.Given as goal

abbrev pub invariant-loop-entry : goal.invariant-loop-entry
invariant-loop-entry l = l.count ≡ count_up_to (was_ignored l.number) (take l.entry-index l.entries)
