use Rattle.srm_entries.proofs.Rating.{rate_law}
use Rattle.srm_entries.proofs.laws.keeps_rate.Goals as goal

pub returns : goal.returns
returns c = rate_law
