use Rattle.std.proofs.Common.{refl}
use Rattle.srm_record.proofs.Filing.{puts}
use Rattle.srm_record.proofs.record_file.RecordFile.put_end.Goals as goal

pub returns-in-Ok : goal.returns-in-Ok
returns-in-Ok g c = rw (← c.self.view_is) (puts _ _ _ refl refl refl refl refl c.in-Ok.ensures)
