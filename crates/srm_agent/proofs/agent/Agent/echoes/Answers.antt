use Rattle.std.proofs.Common.{subst}
use Rattle.std.specs.Prelude.{IfOk}
use Rattle.srm_agent.specs.Contents.{content_of}
use Rattle.srm_agent.specs.SessionMessages.{AreOwed}
use Rattle.srm_agent.proofs.MessageSpelled.{owed_if_ok}
use Rattle.srm_agent.proofs.agent.Agent.echoes.Goals as goal

pub returns : goal.returns
returns g c =
    subst (λ a. IfOk c.echoes.result (λ echoes. AreOwed a c.args.moment echoes.items)) c.self.view_is
    (owed_if_ok (content_of c.self.inside) c.args.moment (λ echoes. echoes.items) c.echoes.result c.requires c.echoes.ensures.value c.echoes.ensures.range)
