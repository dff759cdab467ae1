use Rattle.srm_audited.proofs.Judged.{part_ok}
use Rattle.srm_audited.proofs.auditing.settle.Goals as goal

pub returns-in-Err : goal.returns-in-Err
returns-in-Err c = part_ok c.args.told.items c.args.gots.items c.in-Err.mismatch c.told_of_part.result c.requires.part c.requires.listed c.requires.order c.requires.given c.in-Err.ensures.refused c.told_of_part.ensures
