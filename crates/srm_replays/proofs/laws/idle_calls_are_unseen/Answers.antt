use Rattle.srm_replays.proofs.Unseen.{unseen_law}
use Rattle.srm_replays.proofs.laws.idle_calls_are_unseen.Goals as goal

pub returns : goal.returns
returns c = unseen_law
