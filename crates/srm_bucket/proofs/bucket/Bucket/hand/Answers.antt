use Rattle.std.proofs.Common.{refl}
use Rattle.std.proofs.lemmas.Result.{on_ok_weaker, on_err_weaker}
use Rattle.srm_bucket.proofs.Going.{adds_handed, stays}
use Rattle.srm_bucket.proofs.bucket.Bucket.hand.Goals as goal

pub returns-clause-ok : goal.returns-clause-ok
returns-clause-ok g c = rw (← c.self.view_is) (on_ok_weaker c.push.result (λ gains. adds_handed _ _ _ refl gains) c.push.ensures.ok)

pub returns-clause-err : goal.returns-clause-err
returns-clause-err g c = rw (← c.self.view_is) (on_err_weaker c.push.result (λ same. stays _ _ refl same) c.push.ensures.err)
