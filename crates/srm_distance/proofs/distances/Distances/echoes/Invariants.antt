use Rattle.srm_distance.proofs.Collecting.{Collected}
use Rattle.srm_distance.proofs.distances.Distances.echoes.Given as goal

abbrev pub invariant-loop-number : goal.invariant-loop-number
invariant-loop-number l = Collected l.self l.now l.number l.echoes.items
