use Rattle.srm_world.proofs.Journaling.{kept_at_first}
use Rattle.srm_world.proofs.recorder.Recorder.with_past.Goals as goal

pub invariant_of-result : goal.invariant_of-result
invariant_of-result g c = kept_at_first _ _ c.requires.moment c.requires.past c.in_ok-new.ensures.fits
