use Rattle.srm_control.proofs.LineSteps.{puts}
use Rattle.srm_control.proofs.commands.PageCommands.answer.Goals as goal

pub try_send_as-requires-clause-rule : goal.try_send_as-requires-clause-rule
try_send_as-requires-clause-rule g c = (puts _ _ _ _ c.self.invariant.3, λ _ _ _ _. tt)
