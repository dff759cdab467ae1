use Rattle.std.proofs.Common.{sym, ◌∙◌}
use Rattle.std.specs.Prelude.{Some, None}
use Rattle.srm_timers.proofs.Marking.{asker_read, until_read}
use Rattle.srm_timers.proofs.marks.Marks.mark.Goals as goal

pub returns-in-Some-clause-asker : goal.returns-in-Some-clause-asker
returns-in-Some-clause-asker c = rw (← c.self.view_is) (asker_read c.self.inside.places c.args.name (Some c.in-Some.mark) (sym c.get.ensures ∙ c.in-Some.is))

pub returns-in-Some-clause-until : goal.returns-in-Some-clause-until
returns-in-Some-clause-until c = rw (← c.self.view_is) (until_read c.self.inside.places c.args.name (Some c.in-Some.mark) (sym c.get.ensures ∙ c.in-Some.is))

pub returns-in-None-clause-asker : goal.returns-in-None-clause-asker
returns-in-None-clause-asker c = rw (← c.self.view_is) (asker_read c.self.inside.places c.args.name None (sym c.get.ensures ∙ c.in-None.is))

pub returns-in-None-clause-until : goal.returns-in-None-clause-until
returns-in-None-clause-until c = rw (← c.self.view_is) (until_read c.self.inside.places c.args.name None (sym c.get.ensures ∙ c.in-None.is))
