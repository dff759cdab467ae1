use Rattle.std.proofs.Common.{refl}
use Rattle.srm_bucket.proofs.Going.{adds_refilled}
use Rattle.srm_bucket.proofs.bucket.Bucket.refill.Goals as goal

pub returns-clause-adds : goal.returns-clause-adds
returns-clause-adds g c = rw (← c.self.view_is) (adds_refilled c.args.now _ _ c.refill.ensures.value (λ k. refl))
