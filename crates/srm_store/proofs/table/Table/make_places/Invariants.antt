use Rattle.std.proofs.Common.{◌≡◌, ℕ, ◌≤◌, ◌<◌, length, true}
use Rattle.srm_store.specs.Places.{has_place}
use Rattle.srm_store.specs.Tables.{stream_in, SameTable, StillHasPlaces}
use Rattle.srm_store.specs.Inside.{table_of}
use Rattle.srm_store.proofs.Tabling.{AreBlank}
use Rattle.srm_store.proofs.table.Table.make_places.Given as goal

abbrev pub invariant-loop-slot : goal.invariant-loop-slot
invariant-loop-slot l = record {
  same : SameTable l.fn.self (table_of l.self-inside);
  still : StillHasPlaces l.fn.self (table_of l.self-inside);
  size : length l.self-inside.streams.items ≡ 288;
  blank : AreBlank l.self-inside.pages l.self-inside.streams.items;
  so_far : (slot : ℕ) → l.first ≤ slot → slot < l.slot → has_place (stream_in l.self-inside.streams.items slot l.source).places l.number ≡ true;
}
