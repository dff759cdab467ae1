use Rattle.srm_node.proofs.Keeping.{new_feeds}
use Rattle.srm_member.proofs.Lanes.{ends_of_lanes, new_taps}
use Rattle.srm_member.proofs.station.slots.Goals as goal

pub returns-clause-feeds : goal.returns-clause-feeds
returns-clause-feeds c = new_feeds 0 _ _ _ c.in_ok-ends.ensures

pub returns-clause-lanes : goal.returns-clause-lanes
returns-clause-lanes c = ends_of_lanes 0 _ _ _ c.in_ok-ends.ensures

pub returns-clause-new : goal.returns-clause-new
returns-clause-new c = new_taps 0 _ _ _ c.in_ok-ends.ensures
