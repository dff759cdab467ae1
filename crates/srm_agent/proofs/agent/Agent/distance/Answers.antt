use Rattle.srm_entries.specs.Distances.{distance_calls}
use Rattle.srm_agent.proofs.agent.Agent.distance.Goals as goal

pub returns-clause-value : goal.returns-clause-value
returns-clause-value g c = rw (← c.self.view_is) (λ config made past fits. c.distance.ensures.value config.least_distance config.me (distance_calls config.me past) fits.distances)
