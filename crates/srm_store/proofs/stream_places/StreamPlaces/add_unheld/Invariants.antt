use Rattle.std.proofs.Common.{◌≡◌, ◌≤◌, ◌+◌, ◌++◌}
use Rattle.std.specs.Prelude.{vec_len, vec_capacity}
use Rattle.srm_store.specs.Held.{names_after}
use Rattle.srm_store.specs.StreamPlaces.{unheld_in_stream}
use Rattle.srm_store.proofs.stream_places.StreamPlaces.add_unheld.Given as goal

abbrev pub invariant-loop-done : goal.invariant-loop-done
invariant-loop-done l = record {
  so_far : l.names.items ≡ l.fn.names.items ++ unheld_in_stream l.self (names_after l.stream l.after l.done);
  few : vec_len l.names ≤ vec_len l.fn.names + l.done;
  room : vec_capacity l.fn.names ≤ vec_capacity l.names;
}
