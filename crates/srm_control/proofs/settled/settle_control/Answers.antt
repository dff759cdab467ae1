use Rattle.srm_control.proofs.LineSteps.{merges}
use Rattle.srm_control.proofs.settled.settle_control.Goals as goal

pub absorb-requires-clause-rule : goal.absorb-requires-clause-rule
absorb-requires-clause-rule c = merges _ _ _ _ c.control.invariant.1 c.commands.invariant.1

pub absorb-requires-2-clause-rule : goal.absorb-requires-2-clause-rule
absorb-requires-2-clause-rule c = merges _ _ _ _ c.commands.invariant.3 c.control.invariant.3
