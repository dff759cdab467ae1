use Rattle.srm_audited.proofs.Refusing.{refused_law}
use Rattle.srm_audited.proofs.laws.refusals_hold.Goals as goal

pub returns : goal.returns
returns c = refused_law
