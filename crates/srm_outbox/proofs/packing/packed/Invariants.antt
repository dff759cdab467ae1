use Rattle.std.proofs.Common.{drop}
use Rattle.srm_outbox.proofs.Requesting.{PackedSoFar}
use Rattle.srm_outbox.proofs.packing.packed.Given as goal

abbrev pub invariant-loop-index : goal.invariant-loop-index
invariant-loop-index l = PackedSoFar l.me l.asks (drop l.index l.asks) l.last l.requests.items
