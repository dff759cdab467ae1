use Rattle.std.proofs.Common.{arith}
use Rattle.srm_outbox.proofs.Requesting.{request_spelled}
use Rattle.srm_outbox.proofs.packing.request.Goals as goal

pub returns-clause-spelled : goal.returns-clause-spelled
returns-clause-spelled c = request_spelled _ _ _ (omega arith) c.is_in_range.ensures (omega arith) c.mask.ensures.within
