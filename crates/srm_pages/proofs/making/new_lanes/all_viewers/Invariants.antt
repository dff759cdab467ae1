use Rattle.std.proofs.Common.{◌≡◌, vec_len, All}
use Rattle.srm_pages.specs.Seats.{new_lookout}
use Rattle.srm_pages.proofs.making.new_lanes.all_viewers.Given as goal

abbrev pub invariant-loop : goal.invariant-loop
invariant-loop l = record {
  dealer : l.dealer ≡ l.initial.dealer;
  count : vec_len l.viewers ≡ l.counter;
  new : All (λ s. s ≡ new_lookout l.initial.dealer.board) l.viewers.items;
}
