use Rattle.srm_record.proofs.Filing.{begun}
use Rattle.srm_record.proofs.record_file.RecordFile.new.Goals as goal

pub returns-clause-record : goal.returns-clause-record
returns-clause-record g c = begun _ _ c.args.beginning c.unwritten-made.ensures.beginning c.unwritten-made.ensures.last c.unwritten-made.ensures.text c.write.ensures
