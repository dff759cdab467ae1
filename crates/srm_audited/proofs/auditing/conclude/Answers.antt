use Rattle.srm_audited.proofs.Judged.{whole_ok}
use Rattle.srm_audited.proofs.auditing.conclude.Goals as goal

pub returns-in-Err : goal.returns-in-Err
returns-in-Err c = whole_ok c.args.told.items c.args.gots.items c.in-Err.mismatch c.told_of_whole.result c.requires c.in-Err.ensures.refused c.told_of_whole.ensures
