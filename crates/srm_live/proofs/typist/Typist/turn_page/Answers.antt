use Rattle.srm_live.proofs.TypedLines.{stays_none}
use Rattle.srm_live.proofs.typist.Typist.turn_page.Goals as goal

pub returns-in_default : goal.returns-in_default
returns-in_default g c = stays_none c.args.self.now
