use Rattle.srm_gaps.proofs.Retelling.{refusal_law}
use Rattle.srm_gaps.proofs.laws.refusals_hold.Goals as goal

pub returns : goal.returns
returns c = refusal_law
