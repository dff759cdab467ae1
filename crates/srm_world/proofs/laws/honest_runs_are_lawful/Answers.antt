use Rattle.srm_world.proofs.Lawful.{lawful}
use Rattle.srm_world.proofs.laws.honest_runs_are_lawful.Goals as goal

pub returns : goal.returns
returns c = lawful
