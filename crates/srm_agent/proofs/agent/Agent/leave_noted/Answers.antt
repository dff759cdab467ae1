use Rattle.srm_entries.specs.declared.entry.Input.TheVariants.{AskedLeave}
use Rattle.srm_agent.proofs.Entering.{noted_enters, noted_answers}
use Rattle.srm_agent.proofs.agent.Agent.leave_noted.Goals as goal

pub returns-clause-ok : goal.returns-clause-ok
returns-clause-ok g c = noted_enters g.W.Words.next_word _ _ c.args.now c.moment-moment.result AskedLeave c.leave_at-answer.result c.noted.result.entry c.moment-moment.ensures.value c.leave_at-answer.ensures c.noted.ensures.entry

pub returns-clause-answer : goal.returns-clause-answer
returns-clause-answer g c = noted_answers _ _ _ c.leave_at-answer.result c.noted.result.answer _ c.noted.result.entry c.noted.ensures.entry c.noted.ensures.answer
