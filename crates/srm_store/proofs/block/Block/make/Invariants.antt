use Rattle.std.proofs.Common.{◌≡◌, length}
use Rattle.srm_store.specs.Places.{Grown}
use Rattle.srm_store.proofs.block.Block.make.Given as goal

abbrev pub invariant-loop-place : goal.invariant-loop-place
invariant-loop-place l = record {
  grown : Grown l.fn.self l.self-inside.places.items;
  so_far : length l.self-inside.places.items ≡ l._place;
}
