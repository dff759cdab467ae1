use Rattle.srm_live.proofs.Askings.{hears_shown}
use Rattle.srm_live.proofs.asking.send_shown.Goals as goal

pub returns : goal.returns
returns g c = hears_shown c.args.page.now c.send.result _ _ c.send.ensures.sent c.send.ensures.none
