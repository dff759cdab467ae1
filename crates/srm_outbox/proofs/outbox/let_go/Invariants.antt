use Rattle.srm_bucket.specs.Waiting.{count_of}
use Rattle.srm_outbox.proofs.Handing.{WentSoFar}
use Rattle.srm_outbox.proofs.outbox.let_go.Given as goal

abbrev pub invariant-loop-item : goal.invariant-loop-item
invariant-loop-item l = WentSoFar l.now l.fn.bucket l.bucket l.went

abbrev pub decreases-loop-item : goal.decreases-loop-item
decreases-loop-item l = count_of l.bucket.waiting
