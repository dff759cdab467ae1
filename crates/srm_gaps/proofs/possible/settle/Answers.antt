use Rattle.srm_gaps.proofs.Ordering.{refused_at}
use Rattle.srm_gaps.proofs.possible.settle.Goals as goal

pub returns-in-Some : goal.returns-in-Some
returns-in-Some c = refused_at c.args.told.now c.args.order.now c.in-Some.member c.count.result c.requires c.in-Some.ensures c.count.ensures
