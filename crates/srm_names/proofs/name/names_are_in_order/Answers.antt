use Rattle.srm_names.proofs.Orders.{name_order}
use Rattle.srm_names.proofs.name.names_are_in_order.Goals as goal

pub returns : goal.returns
returns c = name_order
