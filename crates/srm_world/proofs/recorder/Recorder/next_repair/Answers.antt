use Rattle.srm_world.proofs.recorder.Recorder.next_repair.Goals as goal

pub returns : goal.returns
returns g c = rw (← c.self.view_is) (c.next_repair.ensures.each _ _ _ c.self.invariant.fits)
