use Rattle.std.proofs.Common.{◌∙◌}
use Rattle.srm_agent.proofs.agent.Agent.pages.Goals as goal

pub returns : goal.returns
returns g c = λ s made past h.
    let fits = rw (← c.self.view_is) at h in
    c.as_slice.ensures.value ∙ fits.pages
