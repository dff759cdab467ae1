use Rattle.std.proofs.Common.{refl}
use Rattle.srm_world.proofs.Going.{takes_on}
use Rattle.srm_world.proofs.participant.Participant.take.Goals as goal

pub returns : goal.returns
returns g c = rw (← c.self.view_is) (takes_on g.W.Words.next_word c.args.slot _ _ c.take-message.result c.took.result c.took.ensures c.take-message.ensures refl refl refl refl)
