use Rattle.std.proofs.Common.{◌≡◌, take}
use Rattle.srm_node.specs.Counting.{came_as_noise, count_up_to}
use Rattle.srm_node.proofs.counting.all_noise.Given as goal

abbrev pub invariant-loop-entry : goal.invariant-loop-entry
invariant-loop-entry l = l.count ≡ count_up_to came_as_noise (take l.entry-index l.entries)
