use Rattle.srm_control.proofs.LineSteps.{takes}
use Rattle.srm_control.proofs.commands.PageCommands.next.Goals as goal

pub try_recv_as-requires-clause-rule : goal.try_recv_as-requires-clause-rule
try_recv_as-requires-clause-rule g c = (takes _ _ c.self.invariant.1, λ _ _ _ _. tt)
