use Rattle.srm_record.proofs.Recorded.{record_law}
use Rattle.srm_record.proofs.laws.records_tell.Goals as goal

pub returns : goal.returns
returns g c = record_law
