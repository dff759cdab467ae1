use Rattle.srm_agent.proofs.agent.Agent.showing.Goals as goal

pub returns : goal.returns
returns g c = λ s made past h.
    let fits = rw (← c.self.view_is) at h in
    fits.showing
