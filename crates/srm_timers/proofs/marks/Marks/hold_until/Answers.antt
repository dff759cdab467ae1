use Rattle.srm_timers.proofs.Marking.{held_place, held_on, held_as_long, marks_hold}
use Rattle.srm_timers.proofs.marks.Marks.hold_until.Goals as goal

pub set-requires : goal.set-requires
set-requires c = held_place c.self.inside.places c.args.name (rw (← c.self.view_is) at c.requires.place)

pub returns-then-mark-until-clause-off : goal.returns-then-mark-until-clause-off
returns-then-mark-until-clause-off c = rw (← c.self.view_is) ((held_on c.args.name c.args.mark.now.asker c.args.mark.now.until c.args.until c.self.inside.places _
    (rw (← c.self.view_is) at c.requires.asker) (rw (← c.self.view_is) at c.requires.off) c.if-mark-until.true c.set.ensures.sets).0)

pub returns-then-mark-until-clause-askers : goal.returns-then-mark-until-clause-askers
returns-then-mark-until-clause-askers c = rw (← c.self.view_is) ((held_on c.args.name c.args.mark.now.asker c.args.mark.now.until c.args.until c.self.inside.places _
    (rw (← c.self.view_is) at c.requires.asker) (rw (← c.self.view_is) at c.requires.off) c.if-mark-until.true c.set.ensures.sets).1)

pub returns-then-mark-until-clause-keeps_places : goal.returns-then-mark-until-clause-keeps_places
returns-then-mark-until-clause-keeps_places c = rw (← c.self.view_is) (marks_hold c.self.inside.places _ c.set.ensures.keeps_places)

pub returns-else-mark-until-clause-off : goal.returns-else-mark-until-clause-off
returns-else-mark-until-clause-off c = held_as_long c.args.name c.args.until c.args.mark.now.until _ c.requires.off c.if-mark-until.false
