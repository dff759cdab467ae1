use Rattle.srm_agent.proofs.Unknown.{UnknownByFirstRows}
use Rattle.srm_agent.proofs.agent.Agent.unknown_by_rows.Given as goal

abbrev pub invariant-loop-row : goal.invariant-loop-row
invariant-loop-row g l = UnknownByFirstRows l.fn.self l.rows l.row-index l.count
