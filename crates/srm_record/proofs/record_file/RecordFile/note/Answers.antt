use Rattle.std.proofs.Common.{refl}
use Rattle.srm_record.proofs.Filing.{noted}
use Rattle.srm_record.proofs.record_file.RecordFile.note.Goals as goal

pub returns : goal.returns
returns g c = rw c.move_on.ensures (noted c.args.self.now c.put.new.self c.write_if_due.new.self c.args.entry.now _ c.put.ensures c.write_if_due.ensures refl)
