use Rattle.srm_frames.proofs.RecordLaws.{found_or_memory}
use Rattle.srm_frames.proofs.reading.read_record.Goals as goal

pub returns-clause-read : goal.returns-clause-read
returns-clause-read c = λ v is. found_or_memory c.args.bytes.now _ c.judge.ensures v is
