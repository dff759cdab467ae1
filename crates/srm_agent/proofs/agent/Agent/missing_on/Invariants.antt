use Rattle.srm_agent.specs.Asking.{MissesBelow}
use Rattle.srm_agent.proofs.agent.Agent.missing_on.Given as goal

abbrev pub invariant-loop-number : goal.invariant-loop-number
invariant-loop-number g l = MissesBelow l.fn.self l.page l.number l.count
