use Rattle.srm_agent.proofs.TicksTimers.{own_same}
use Rattle.srm_agent.proofs.agent.Agent.room_to_go.Goals as goal

pub invariant_of-self : goal.invariant_of-self
invariant_of-self g c = record { last = c.self.invariant.last; progress = c.self.invariant.progress; held = c.self.invariant.held; settings = c.self.invariant.settings; waiting = own_same _ _ _ _ c.self.invariant.waiting c.room.ensures.queues }

pub invariant_of-self-2 : goal.invariant_of-self-2
invariant_of-self-2 g c = record { last = c.self.invariant.last; progress = c.self.invariant.progress; held = c.self.invariant.held; settings = c.self.invariant.settings; waiting = own_same _ _ _ _ c.self.invariant.waiting c.room.ensures.queues }
