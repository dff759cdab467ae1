use Rattle.srm_replays.proofs.Replaying.{replay_law}
use Rattle.srm_replays.proofs.laws.replays.Goals as goal

pub returns : goal.returns
returns g c = replay_law
