use Rattle.std.proofs.Common.{◌∙◌, ap}
use Rattle.srm_entries.specs.Outstanding.{missing_in_all}
use Rattle.srm_world.specs.WaitWords.{RecorderView}
use Rattle.srm_world.proofs.recorder.Recorder.missing.Goals as goal

pub returns-clause-value : goal.returns-clause-value
returns-clause-value g c = c.missing.ensures.is _ _ _ c.self.invariant.fits ∙ ap (λ (r : RecorderView g.row.W.Denot). missing_in_all r.journal.entries) c.self.view_is

pub returns-clause-few : goal.returns-clause-few
returns-clause-few g c = c.missing.ensures.few
