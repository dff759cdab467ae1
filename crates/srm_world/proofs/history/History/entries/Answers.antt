use Rattle.srm_world.proofs.Lawful.{lawful_journal}
use Rattle.srm_world.proofs.history.History.entries.Goals as goal

pub returns-clause-lawful : goal.returns-clause-lawful
returns-clause-lawful c = rw (← c.self.view_is) (lawful_journal _ c.self.invariant)
