use Rattle.srm_agent.proofs.agent.Agent.next_repair.Goals as goal

pub returns : goal.returns
returns g c = record {
  each = λ s made past h.
      let fits = rw (← c.self.view_is) at h in
      c.next_repair.ensures.each s past fits.timers;
}
