use Rattle.std.proofs.Common.{◌≡◌, take}
use Rattle.srm_node.specs.Counting.{was_dropped, count_up_to}
use Rattle.srm_node.proofs.counting.all_dropped.Given as goal

abbrev pub invariant-loop-entry : goal.invariant-loop-entry
invariant-loop-entry l = l.count ≡ count_up_to was_dropped (take l.entry-index l.entries)
