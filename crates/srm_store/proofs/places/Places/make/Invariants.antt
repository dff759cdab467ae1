use Rattle.std.proofs.Common.{◌≡◌, length}
use Rattle.srm_store.specs.Places.{SamePlaces, StillHas, EndsInTime}
use Rattle.srm_store.proofs.places.Places.make.Given as goal

abbrev pub invariant-loop-block : goal.invariant-loop-block
invariant-loop-block l = record {
  same : SamePlaces l.fn.self l.self-inside.blocks.items;
  still : StillHas l.fn.self l.self-inside.blocks.items;
  ends : EndsInTime l.self-inside.blocks.items;
  so_far : length l.self-inside.blocks.items ≡ l._block;
}
