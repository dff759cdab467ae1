use Rattle.srm_agent_state.proofs.Midway.{waits_drawn}
use Rattle.srm_agent_state.proofs.timers.Timers.detect.Goals as goal

pub returns-clause-chosen : goal.returns-clause-chosen
returns-clause-chosen g c = rw (← c.self.view_is) (waits_drawn g.W.Words.next_word c.self.inside.asks c.self.inside.fixes _ _ _ c.args.words.now c.detect.new.words c.in_ok-arms.arms.items c.in_ok-arms.ensures.arms c.in_ok-arms.ensures.chosen)
