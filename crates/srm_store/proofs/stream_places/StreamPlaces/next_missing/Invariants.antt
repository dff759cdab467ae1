use Rattle.std.proofs.Common.{◌≡◌, ◌≤◌}
use Rattle.std.specs.Prelude.{None}
use Rattle.srm_store.specs.Places.{next_gap}
use Rattle.srm_store.proofs.stream_places.StreamPlaces.next_missing.Given as goal

abbrev pub invariant-loop-number : goal.invariant-loop-number
invariant-loop-number l = record {
  none : next_gap l.self.places l.after l.number ≡ None;
  above : l.after ≤ l.number;
}
