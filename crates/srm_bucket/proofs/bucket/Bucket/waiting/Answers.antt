use Rattle.std.proofs.Common.{length, ap, ◌∙◌}
use Rattle.srm_bucket.specs.Waiting.{queue}
use Rattle.srm_bucket.specs.Content.{BucketContent}
use Rattle.srm_bucket.proofs.Going.{waiting_left}
use Rattle.srm_bucket.proofs.bucket.Bucket.waiting.Goals as goal

pub returns-clause-value : goal.returns-clause-value
returns-clause-value g c = λ rate depth calls fits.
    c.len.ensures
    ∙ ap (λ (b : BucketContent g.row.T.Denot). length (queue b.waiting c.args.class)) c.self.view_is
    ∙ waiting_left c.args.self.now c.args.class rate depth calls fits
