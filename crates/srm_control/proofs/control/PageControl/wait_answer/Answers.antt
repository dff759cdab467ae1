use Rattle.srm_control.proofs.LineSteps.{takes}
use Rattle.srm_control.proofs.control.PageControl.wait_answer.Goals as goal

pub recv_as-requires-clause-rule : goal.recv_as-requires-clause-rule
recv_as-requires-clause-rule g c = (takes _ _ c.self.invariant.3, λ _ _ _ _. tt)
