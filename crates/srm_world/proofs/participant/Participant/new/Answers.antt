use Rattle.std.proofs.Common.{refl}
use Rattle.srm_world.proofs.Going.{begins}
use Rattle.srm_world.proofs.participant.Participant.new.Goals as goal

pub returns-clause-fits : goal.returns-clause-fits
returns-clause-fits g c = begins c.args.config c.args.now _ c.in_ok-new.ensures.fits refl refl refl c.in_ok-lanes.ensures
