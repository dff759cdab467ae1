use Rattle.srm_board.proofs.BoardRuns.{whole_end}
use Rattle.srm_board.proofs.boarding.run_bound.Goals as goal

pub returns : goal.returns
returns g c = λ whole. c.host-run.ensures (whole_end c.host-run.result c.told_with.result c.was_before.result _ c.told_with.ensures c.of_end.ensures whole)
