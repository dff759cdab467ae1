use Rattle.srm_agent.proofs.Asking.{misses_nothing}
use Rattle.srm_agent.proofs.agent.Agent.next_request.Goals as goal

pub returns-clause-first : goal.returns-clause-first
returns-clause-first g c = record {
  each = λ s made past h.
      let fits = rw (← c.self.view_is) at h in
      c.next_request.ensures.each s past fits.timers;
}

pub returns-clause-nothing : goal.returns-clause-nothing
returns-clause-nothing g c = λ none. misses_nothing c.args.self.now c.next_request.result (returns-clause-first g c) none
