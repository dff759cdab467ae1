use Rattle.std.proofs.Common.{◌≡◌, ◌≤◌, ◌+◌}
use Rattle.srm_store.specs.Places.{gaps_up_to}
use Rattle.srm_store.proofs.places.Places.gaps_after.Given as goal

abbrev pub invariant-loop-number : goal.invariant-loop-number
invariant-loop-number l = record {
  so_far : gaps_up_to l.self l.number ≡ gaps_up_to l.self l.after + l.count;
  few : l.count + l.after ≤ l.number;
}
