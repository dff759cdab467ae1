use Rattle.std.proofs.Common.{subst}
use Rattle.srm_bucket.specs.declared.class.Class.TheVariants.{New}
use Rattle.srm_bucket.specs.Admitting.{AdmitsFrom}
use Rattle.srm_agent.specs.Contents.{content_of}
use Rattle.srm_agent.proofs.Admitting.{admitted_from}
use Rattle.srm_agent.proofs.agent.Agent.admits_draw_from.Goals as goal

pub returns : goal.returns
returns g c = rw (c.max.ensures, ← c.self.view_is)
    (admitted_from (content_of c.self.inside) c.args.body_length c.draw_length.result c.draw_length.ensures c.in_ok-first.first
    (subst (AdmitsFrom New c.draw_length.result c.self.inside.bucket) c.in_ok-first.was c.admits_from.ensures))
