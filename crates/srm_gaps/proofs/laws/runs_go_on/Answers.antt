use Rattle.srm_gaps.proofs.Retelling.{retelling_law}
use Rattle.srm_gaps.proofs.laws.runs_go_on.Goals as goal

pub returns : goal.returns
returns c = retelling_law
