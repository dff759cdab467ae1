use Rattle.srm_control.proofs.LineSteps.{takes}
use Rattle.srm_control.proofs.control.PageControl.answer.Goals as goal

pub try_recv_as-requires-clause-rule : goal.try_recv_as-requires-clause-rule
try_recv_as-requires-clause-rule g c = (takes _ _ c.self.invariant.3, λ _ _ _ _. tt)
