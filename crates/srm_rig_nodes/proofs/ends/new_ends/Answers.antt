use Rattle.srm_node.proofs.Keeping.{new_feeds}
use Rattle.srm_rig_nodes.proofs.ends.new_ends.Goals as goal

pub returns-clause-feeds : goal.returns-clause-feeds
returns-clause-feeds c = new_feeds 0 _ _ _ c.in_ok-ends.ensures
