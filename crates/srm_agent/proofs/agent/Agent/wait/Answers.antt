use Rattle.std.proofs.Common.{refl}
use Rattle.srm_agent.proofs.Passing.{wait_ticks}
use Rattle.srm_agent.proofs.agent.Agent.wait.Goals as goal

pub invariant_of-self : goal.invariant_of-self
invariant_of-self g c = record { last = c.self.invariant.last; progress = c.self.invariant.progress; held = c.self.invariant.held; settings = c.self.invariant.settings; waiting = c.let_time_pass.ensures.left _ _ c.self.invariant.waiting }

pub returns-clause-ticks : goal.returns-clause-ticks
returns-clause-ticks g c = rw (← c.self.view_is) (wait_ticks g.W.Words.next_word _ _ _ c.args.moment c.rest.result (rw (← c.self.view_is) at c.requires.here) (rw (← c.self.view_is) at c.requires.later) (rw (← c.self.view_is) at c.requires.early) refl
    c.let_time_pass.ensures c.rest.ensures.new c.rest.ensures.idle c.rest.ensures.state)
