use Rattle.std.proofs.Common.{drop}
use Rattle.srm_outbox.proofs.Requesting.{MaskSoFar}
use Rattle.srm_outbox.proofs.packing.mask.Given as goal

abbrev pub invariant-loop-name : goal.invariant-loop-name
invariant-loop-name l = MaskSoFar l.first l.rest (drop l.name-index l.rest) l.mask
