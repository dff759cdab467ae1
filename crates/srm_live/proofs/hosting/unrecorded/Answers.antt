use Rattle.srm_live.proofs.Recorded.{whole_record}
use Rattle.srm_live.proofs.hosting.unrecorded.Goals as goal

pub returns-in-Ok-clause-whole : goal.returns-in-Ok-clause-whole
returns-in-Ok-clause-whole g c = λ none. whole_record c.args.recorded c.in-Ok.recorded c.of_record.result c.in-Ok.is c.of_record.ensures none
