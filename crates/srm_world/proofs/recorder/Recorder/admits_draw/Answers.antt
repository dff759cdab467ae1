use Rattle.srm_world.proofs.recorder.Recorder.admits_draw.Goals as goal

pub returns : goal.returns
returns g c = rw (← c.self.view_is) (c.admits_draw.ensures.each _ _ _ c.self.invariant.fits)
