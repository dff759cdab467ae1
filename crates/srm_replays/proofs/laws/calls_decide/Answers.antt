use Rattle.srm_replays.proofs.Replaying.{agreement_law}
use Rattle.srm_replays.proofs.laws.calls_decide.Goals as goal

pub returns : goal.returns
returns g c = agreement_law
