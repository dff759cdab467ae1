use Rattle.srm_slate.proofs.Showing.{shows_one_more}
use Rattle.srm_slate.proofs.record.Record.take.Goals as goal

pub returns-clause-front : goal.returns-clause-front
returns-clause-front c = shows_one_more c.keep.result _ _ _ c.keep.ensures.ok c.keep.ensures.whole c.keep.ensures.err
