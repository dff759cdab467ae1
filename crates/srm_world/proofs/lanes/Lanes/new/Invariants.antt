use Rattle.std.proofs.Common.{◌≡◌, length}
use Rattle.srm_world.specs.Lanes.{AreEmpty}
use Rattle.srm_world.proofs.lanes.Lanes.new.Given as goal

abbrev pub invariant-loop : goal.invariant-loop
invariant-loop l = record {
  count : length l.lanes.items ≡ l.counter;
  empty : AreEmpty l.lanes.items;
}
