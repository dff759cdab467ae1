use Rattle.srm_live.proofs.Askings.{hears_taken}
use Rattle.srm_live.proofs.asking.take_waiting.Goals as goal

pub returns : goal.returns
returns g c = hears_taken c.take_one.result _ _ c.take_one.ensures
