use Rattle.srm_agent.proofs.Asking.{they_wait}
use Rattle.srm_agent.proofs.agent.Agent.waiting.Goals as goal

pub returns : goal.returns
returns g c = rw (← c.self.view_is) (record {
  each = λ s made past h. they_wait s made past _ c.args.class c.waiting.result h (c.waiting.ensures.value s.rate s.depth h.bucket.calls h.bucket.fits);
})
