use Rattle.srm_record.proofs.Filing.{starts_as}
use Rattle.srm_record.proofs.record_file.RecordFile.unwritten.Goals as goal

pub returns-in-Ok-clause-text : goal.returns-in-Ok-clause-text
returns-in-Ok-clause-text g c = starts_as _ _ _ _ _ _ _ c.with.ensures (λ _. c.in-Ok.ensures)

pub returns-in-Err-clause-text : goal.returns-in-Err-clause-text
returns-in-Err-clause-text g c = starts_as _ _ _ _ _ _ _ c.with-in-Err.ensures (λ fine. absurd cc)
