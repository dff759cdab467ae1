use Rattle.std.proofs.Common.{arith}
use Rattle.srm_guard.proofs.Comparing.{tells_none, tells_more}
use Rattle.srm_guard.proofs.key.is_same.Goals as goal

pub loop-index-init : goal.loop-index-init
loop-index-init c = tells_none

pub loop-index-preserved : goal.loop-index-preserved
loop-index-preserved c = tells_more c.loop-index.differing c.loop-index.index c.args.one.now c.args.other.now (omega arith) (omega arith) c.loop-index.invariant
