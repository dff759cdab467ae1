use Rattle.std.proofs.Common.{refl}
use Rattle.srm_bucket.proofs.Going.{stays}
use Rattle.srm_bucket.proofs.bucket.Bucket.room.Goals as goal

pub returns-clause-stays : goal.returns-clause-stays
returns-clause-stays g c = rw (← c.self.view_is) (stays _ _ refl c.reserve.ensures.queues)
