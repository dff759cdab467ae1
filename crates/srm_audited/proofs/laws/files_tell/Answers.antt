use Rattle.srm_audited.proofs.Filed.{cut_files_law, ended_law, files_law, kept_law}
use Rattle.srm_audited.proofs.laws.files_tell.Goals as goal

pub returns-clause-cut : goal.returns-clause-cut
returns-clause-cut c = cut_files_law

pub returns-clause-all : goal.returns-clause-all
returns-clause-all c = files_law

pub returns-clause-kept : goal.returns-clause-kept
returns-clause-kept c = kept_law

pub returns-clause-ended : goal.returns-clause-ended
returns-clause-ended c = ended_law
