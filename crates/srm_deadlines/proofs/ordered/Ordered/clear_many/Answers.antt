use Rattle.srm_deadlines.proofs.Following.{follows_none}
use Rattle.srm_deadlines.proofs.ordered.Ordered.clear_many.Goals as goal

pub invariant_of-self : goal.invariant_of-self
invariant_of-self c = follows_none c.self.inside.agenda _ c.self.inside.moments _ c.args.names.now c.self.invariant c.remove_all.ensures.each c.clear_all.ensures.sets c.clear_all.ensures.length c.remove_all.ensures.room
