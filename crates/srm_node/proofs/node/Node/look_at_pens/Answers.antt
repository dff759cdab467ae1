use Rattle.std.proofs.Common.{ap}
use Rattle.srm_pages.specs.Ends.{WellView}
use Rattle.srm_node.proofs.Keeping.{node_looked}
use Rattle.srm_node.proofs.node.Node.look_at_pens.Goals as goal

pub invariant_of-self : goal.invariant_of-self
invariant_of-self g c = node_looked _ _ _ _ _ c.self.invariant (ap (λ (w : WellView). w.received) c.is_done.ensures)
