use Rattle.srm_world.proofs.recorder.Recorder.waiting.Goals as goal

pub returns : goal.returns
returns g c = rw (← c.self.view_is) (c.waiting.ensures.each _ _ _ c.self.invariant.fits)
