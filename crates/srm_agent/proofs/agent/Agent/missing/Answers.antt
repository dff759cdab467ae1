use Rattle.srm_agent.proofs.Asking.{misses_zero}
use Rattle.srm_agent.proofs.agent.Agent.missing.Goals as goal

pub returns-in-None : goal.returns-in-None
returns-in-None g c = misses_zero c.args.self.now c.next_request.result c.in-None.is c.next_request.ensures.nothing
