use Rattle.srm_agent.proofs.Leavers.{CountsLeft}
use Rattle.srm_agent.proofs.agent.Agent.members_remaining.Given as goal

abbrev pub invariant-loop-number : goal.invariant-loop-number
invariant-loop-number g l = CountsLeft l.fn.self l.number l.count
