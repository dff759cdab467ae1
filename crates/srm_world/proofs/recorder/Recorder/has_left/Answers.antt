use Rattle.srm_world.proofs.recorder.Recorder.has_left.Goals as goal

pub returns : goal.returns
returns g c = rw (← c.self.view_is) (c.has_left.ensures.is _ _ _ c.self.invariant.fits)
