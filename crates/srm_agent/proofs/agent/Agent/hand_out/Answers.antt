use Rattle.srm_agent.proofs.TicksTimers.{hands_out}
use Rattle.srm_agent.proofs.agent.Agent.hand_out.Goals as goal

pub invariant_of-self : goal.invariant_of-self
invariant_of-self g c = record { last = c.self.invariant.last; progress = c.self.invariant.progress; held = c.self.invariant.held; settings = c.tick.ensures.settings.each _ c.self.invariant.settings; waiting = c.self.invariant.waiting }

pub invariant_of-self-2 : goal.invariant_of-self-2
invariant_of-self-2 g c = record { last = c.self.invariant.last; progress = c.self.invariant.progress; held = c.self.invariant.held; settings = c.tick.ensures.settings.each _ c.self.invariant.settings; waiting = c.self.invariant.waiting }

pub returns-clause-ok : goal.returns-clause-ok
returns-clause-ok g c = rw (← c.self.view_is, c.new.ensures) (hands_out g.W.Words.next_word _ _ c.args.due.now c.distance_table-dist.result.now c.args.moment c.in_ok-arms.arms.items c.self.invariant.settings
    c.distance_table-dist.ensures.value (rw (c.as_slice-asks.ensures, c.as_slice-fixes.ensures) at c.in_ok-arms.ensures.ticks) c.in_ok-arms.ensures.chosen)
