use Rattle.srm_audited.proofs.Judged.{is_replay}
use Rattle.srm_audited.proofs.gathering.replay.Goals as goal

pub returns-clause-is : goal.returns-clause-is
returns-clause-is c = is_replay c.args.read.now c.retell.result c.retell.ensures.start c.retell.ensures.lawful c.retell.ensures.words c.retell.ensures.made c.retell.ensures.told c.retell.ensures.bounded c.retell.ensures.runs c.retell.ensures.slots
