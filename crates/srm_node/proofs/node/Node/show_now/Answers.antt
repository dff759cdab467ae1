use Rattle.srm_node.proofs.Keeping.{node_showed}
use Rattle.srm_node.proofs.node.Node.show_now.Goals as goal

pub invariant_of-self : goal.invariant_of-self
invariant_of-self g c = node_showed c.args.now _ _ _ _ _ _ _ c.show_asked-kept.result.1 c.self.invariant c.show_asked-kept.ensures.lawful c.show_asked-kept.ensures.shows

pub invariant_of-self-2 : goal.invariant_of-self-2
invariant_of-self-2 g c = node_showed c.args.now _ _ _ _ _ _ _ c.show_asked-kept.result.1 c.self.invariant c.show_asked-kept.ensures.lawful c.show_asked-kept.ensures.shows

pub returns-in_err-found-clause-keeps : goal.returns-in_err-found-clause-keeps
returns-in_err-found-clause-keeps g c = (node_showed c.args.now _ _ _ _ _ _ _ c.show_asked-kept.result.1 c.self.invariant c.show_asked-kept.ensures.lawful c.show_asked-kept.ensures.shows).lists

pub returns-clause-keeps : goal.returns-clause-keeps
returns-clause-keeps g c = (node_showed c.args.now _ _ _ _ _ _ _ c.show_asked-kept.result.1 c.self.invariant c.show_asked-kept.ensures.lawful c.show_asked-kept.ensures.shows).lists
