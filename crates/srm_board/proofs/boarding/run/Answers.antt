use Rattle.std.proofs.Common.{refl}
use Rattle.srm_board.proofs.BoardRuns.{not_served}
use Rattle.srm_board.proofs.boarding.run.Goals as goal

pub returns-in-Ok-prepare : goal.returns-in-Ok-prepare
returns-in-Ok-prepare g c = λ whole. (c.in-Ok.key, c.in-Ok.ensures.asked, c.in-Ok.ensures.whole, c.run_keyed.ensures whole)

pub returns-in-Err-prepare : goal.returns-in-Err-prepare
returns-in-Err-prepare g c = λ whole. not_served c.of_serve.result _ _ c.of_serve.ensures.ends refl whole
