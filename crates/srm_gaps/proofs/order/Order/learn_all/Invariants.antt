use Rattle.std.proofs.Common.{◌≡◌, take}
use Rattle.srm_audit.specs.Spellings.{Learns}
use Rattle.srm_gaps.proofs.order.Order.learn_all.Given as goal

abbrev pub invariant-loop-datagram : goal.invariant-loop-datagram
invariant-loop-datagram l = record {
  learns : Learns (take l.datagram-index l.datagrams) l.fn.self.spellings l.self.spellings;
  counts : l.self.counts ≡ l.fn.self.counts;
}
