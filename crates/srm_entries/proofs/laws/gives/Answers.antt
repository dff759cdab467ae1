use Rattle.srm_entries.proofs.Given.{gives_law}
use Rattle.srm_entries.proofs.laws.gives.Goals as goal

pub returns : goal.returns
returns c = gives_law
