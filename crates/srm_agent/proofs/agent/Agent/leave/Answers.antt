use Rattle.srm_entries.specs.declared.entry.Input.TheVariants.{AskedLeave}
use Rattle.srm_agent.proofs.Entering.{has_still}
use Rattle.srm_agent.proofs.agent.Agent.leave.Goals as goal

pub returns : goal.returns
returns g c = has_still g.W.Words.next_word _ _ c.args.now c.moment-moment.result AskedLeave c.leave_at.result c.moment-moment.ensures.value c.leave_at.ensures
