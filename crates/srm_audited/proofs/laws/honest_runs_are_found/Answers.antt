use Rattle.srm_audited.proofs.Refusing.{completeness_law}
use Rattle.srm_audited.proofs.laws.honest_runs_are_found.Goals as goal

pub returns : goal.returns
returns c = completeness_law
