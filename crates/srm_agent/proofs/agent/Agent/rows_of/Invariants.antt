use Rattle.std.proofs.Common.{take}
use Rattle.srm_agent.specs.SessionMessages.{AreRowsOf}
use Rattle.srm_agent.proofs.agent.Agent.rows_of.Given as goal

abbrev pub invariant-loop-stream : goal.invariant-loop-stream
invariant-loop-stream g l = AreRowsOf l.fn.self (take l.stream-index l.streams) l.rows.items
