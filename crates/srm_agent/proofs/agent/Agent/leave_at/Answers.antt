use Rattle.std.proofs.Common.{refl}
use Rattle.srm_agent.proofs.Entering.{max_above, leave_gone, leave_leaving, leave_done}
use Rattle.srm_agent.proofs.agent.Agent.leave_at.Goals as goal

pub returns-in-Gone : goal.returns-in-Gone
returns-in-Gone g c = rw (← c.self.view_is) (leave_gone g.W.Words.next_word _ c.args.moment c.args.moment _ c.in-Gone.is refl (rw (← c.self.view_is) at (max_above c.args.self.now.last c.args.moment c.requires.later)))

pub returns-in-Leaving : goal.returns-in-Leaving
returns-in-Leaving g c = rw (← c.self.view_is) (leave_leaving g.W.Words.next_word _ c.args.moment c.args.moment _ c.in-Leaving.is refl (rw (← c.self.view_is) at (max_above c.args.self.now.last c.args.moment c.requires.later)))

pub returns-in-Active : goal.returns-in-Active
returns-in-Active g c = rw (c.begin_to_leave.ensures, ← c.self.view_is) (leave_done g.W.Words.next_word _ c.args.moment c.args.moment _ c.in-Active.is refl (rw (← c.self.view_is) at (max_above c.args.self.now.last c.args.moment c.requires.later)))
