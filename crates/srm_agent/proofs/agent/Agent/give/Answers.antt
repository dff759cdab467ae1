use Rattle.srm_agent.proofs.agent.Agent.give.Goals as goal

pub hand_over-requires-clause-right : goal.hand_over-requires-clause-right
hand_over-requires-clause-right g c = c.in_ok-message.ensures
