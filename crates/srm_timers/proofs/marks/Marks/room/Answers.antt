use Rattle.srm_timers.proofs.Marking.{had_places, marks_hold}
use Rattle.srm_timers.proofs.marks.Marks.room.Goals as goal

pub returns-clause-again : goal.returns-clause-again
returns-clause-again c = λ places. c.room.ensures.again (had_places c.args.names.now c.self.inside.places (rw (← c.self.view_is) at places))

pub returns-clause-keeps_places : goal.returns-clause-keeps_places
returns-clause-keeps_places c = rw (← c.self.view_is) (marks_hold c.self.inside.places c.room.new.self c.room.ensures.keeps_places)
