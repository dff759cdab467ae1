use Rattle.std.proofs.Common.{ap}
use Rattle.srm_control.specs.declared.command.PageCommand.{PageCommand}
use Rattle.srm_control.specs.declared.command.PageAnswer.{PageAnswer}
use Rattle.srm_control.specs.declared.line.LineView.{LineView}
use Rattle.srm_control.proofs.LineSteps.{forks}
use Rattle.srm_control.proofs.making.page_control.Goals as goal

pub another-take-requires-clause-rule : goal.another-take-requires-clause-rule
another-take-requires-clause-rule c = let e = c.in_ok-sender.ensures.2 in forks _ _ (ap (λ (v : LineView PageCommand). v.puts) e) (ap (λ (v : LineView PageCommand). v.takes) e)

pub another-heard-requires-clause-rule : goal.another-heard-requires-clause-rule
another-heard-requires-clause-rule c = let e = c.in_ok-back.ensures.2 in forks _ _ (ap (λ (v : LineView PageAnswer). v.puts) e) (ap (λ (v : LineView PageAnswer). v.takes) e)
