use Rattle.srm_world.proofs.recorder.Recorder.admits_draw_from.Goals as goal

pub returns : goal.returns
returns g c = rw (← c.self.view_is) (c.admits_draw_from.ensures.each _ _ _ c.self.invariant.fits)
