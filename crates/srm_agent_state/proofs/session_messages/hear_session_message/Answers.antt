use Rattle.std.proofs.Common.{refl}
use Rattle.srm_agent_state.proofs.Learning.{hears_leaver, hears_stayer}
use Rattle.srm_agent_state.proofs.session_messages.hear_session_message.Goals as goal

pub returns-then-farewell : goal.returns-then-farewell
returns-then-farewell c = hears_leaver c.args.me c.args.now _ _ _ _ _ _ c.args.datagram.now _ _ _ _ _ c.in-Session.is c.if-farewell.true (rw c.as_slice.ensures at c.echo_for.ensures) refl c.heard_session.ensures c.forget.ensures

pub returns-else-farewell : goal.returns-else-farewell
returns-else-farewell c = hears_stayer c.args.me c.args.now _ _ _ _ _ _ c.args.datagram.now _ _ _ _ c.in-Session.is c.if-farewell.false (rw c.as_slice.ensures at c.echo_for.ensures) refl c.heard_session.ensures
