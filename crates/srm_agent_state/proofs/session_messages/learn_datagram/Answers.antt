use Rattle.srm_agent_state.proofs.Learning.{learns_by}
use Rattle.srm_agent_state.proofs.session_messages.learn_datagram.Goals as goal

pub returns : goal.returns
returns c = learns_by c.args.datagram.now c.args.names.now _ _ _ _ c.requires.names c.leaver.ensures c.learn_all.ensures c.settle.ensures
