use Rattle.std.proofs.Common.{◌≡◌}
use Rattle.srm_agent.specs.SessionMessages.{streams_on}
use Rattle.srm_agent.proofs.agent.Agent.streams_shown.Given as goal

abbrev pub invariant-loop-number : goal.invariant-loop-number
invariant-loop-number g l = record { are : l.streams.items ≡ streams_on l.fn.self.showing l.number }
