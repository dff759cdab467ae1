use Rattle.srm_agent.proofs.Unknown.{ignored_misses, accepted_misses}
use Rattle.srm_agent.proofs.agent.Agent.made_missing.Goals as goal

pub returns-in-Some : goal.returns-in-Some
returns-in-Some g c = ignored_misses c.args.self.now c.args.datagram.now c.cause_to_ignore.result _ c.in-Some.is c.cause_to_ignore.ensures.verdict

pub returns-in-None : goal.returns-in-None
returns-in-None g c = accepted_misses c.args.self.now c.args.datagram.now c.cause_to_ignore.result c.shown_missing.result c.in-None.is c.cause_to_ignore.ensures.verdict c.shown_missing.ensures
