use Rattle.srm_audited.proofs.Written.{written_law, cut_law}
use Rattle.srm_audited.proofs.laws.what_is_written_is_read.Goals as goal

pub returns-clause-whole : goal.returns-clause-whole
returns-clause-whole c = written_law

pub returns-clause-cut : goal.returns-clause-cut
returns-clause-cut c = cut_law
