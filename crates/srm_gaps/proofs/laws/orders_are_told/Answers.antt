use Rattle.srm_gaps.proofs.Exactly.{order_law}
use Rattle.srm_gaps.proofs.laws.orders_are_told.Goals as goal

pub returns : goal.returns
returns c = order_law
