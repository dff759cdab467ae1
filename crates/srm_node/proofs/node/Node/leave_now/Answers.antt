use Rattle.std.proofs.Common.{refl}
use Rattle.std.specs.Prelude.{None}
use Rattle.srm_node.proofs.Keeping.{node_leaves}
use Rattle.srm_node.proofs.Turning.{leaves_now}
use Rattle.srm_node.proofs.node.Node.leave_now.Goals as goal

pub invariant_of-self : goal.invariant_of-self
invariant_of-self g c = node_leaves _ _ _ _ _ _ _ _ c.leave-left.result c.self.invariant c.leave-left.ensures.lawful c.leave-left.ensures.leaves

pub returns-clause-keeps : goal.returns-clause-keeps
returns-clause-keeps g c = (node_leaves _ _ _ _ None _ _ _ c.leave-left.result c.self.invariant c.leave-left.ensures.lawful c.leave-left.ensures.leaves).lists

pub returns-clause-leaves : goal.returns-clause-leaves
returns-clause-leaves g c = rw (← c.self.view_is) (leaves_now c.args.now c.args.none_left c.is_drained.result c.has_come.result _ c.is_ok.result _ _ _ c.leave-left.result c.is_drained.ensures c.has_come.ensures refl c.is_ok.ensures.value c.still_asked-self-inside.ensures c.leave-left.ensures.leaves)
