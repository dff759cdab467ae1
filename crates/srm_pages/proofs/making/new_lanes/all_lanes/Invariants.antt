use Rattle.std.proofs.Common.{◌≡◌, vec_len}
use Rattle.srm_pages.specs.Ends.{AreNewLanes}
use Rattle.srm_pages.proofs.making.new_lanes.all_lanes.Given as goal

abbrev pub invariant-loop-slot : goal.invariant-loop-slot
invariant-loop-slot l = record {
  next : l.dealer.next ≡ l.slot;
  board : l.dealer.board ≡ l.initial.dealer.board;
  feeds : vec_len l.feeds ≡ l.slot;
  taps : vec_len l.taps ≡ l.slot;
  new : AreNewLanes l.initial.dealer.board l.feeds.items l.taps.items;
}
