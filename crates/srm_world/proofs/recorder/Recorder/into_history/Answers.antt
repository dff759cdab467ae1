use Rattle.srm_world.proofs.Journaling.{journal_kept, lawful}
use Rattle.srm_world.proofs.recorder.Recorder.into_history.Goals as goal

pub invariant_of-result : goal.invariant_of-result
invariant_of-result g c = journal_kept _ _ c.self.invariant

pub returns-clause-lawful : goal.returns-clause-lawful
returns-clause-lawful g c = lawful _ _ c.self.invariant
