use Rattle.srm_entries.proofs.Responding.{response_law}
use Rattle.srm_entries.proofs.laws.responds.Goals as goal

pub returns : goal.returns
returns c = response_law
