use Rattle.srm_world.proofs.recorder.Recorder.next_request.Goals as goal

pub returns-clause-first : goal.returns-clause-first
returns-clause-first g c = rw (← c.self.view_is) (c.next_request.ensures.first.each _ _ _ c.self.invariant.fits)

pub returns-clause-nothing : goal.returns-clause-nothing
returns-clause-nothing g c = λ none. rw (← c.self.view_is) ((c.next_request.ensures.nothing none).each _ _ _ c.self.invariant.fits)
