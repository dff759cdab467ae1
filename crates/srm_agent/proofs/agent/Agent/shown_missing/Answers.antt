use Rattle.std.proofs.Common.{sym, subst}
use Rattle.srm_agent_state.specs.TimerCalls.{IsSession}
use Rattle.srm_agent.proofs.Unknown.{carried_shown, request_shown, session_shows}
use Rattle.srm_agent.proofs.agent.Agent.shown_missing.Goals as goal

pub returns-in-Request : goal.returns-in-Request
returns-in-Request g c = request_shown c.args.self.now c.args.datagram.now c.in-Request.sender c.in-Request.name c.in-Request.mask c.stream.result c.args.names.now c.unknown_up_to.result c.in-Request.is c.stream.ensures c.requires.names c.unknown_up_to.ensures

pub returns-in-Session : goal.returns-in-Session
returns-in-Session g c = session_shows c.args.self.now c.args.datagram.now c.args.names.now c.unknown_by_rows.result (subst IsSession (sym c.in-Session.is) _) c.requires.names c.unknown_by_rows.ensures

pub returns-in-Data : goal.returns-in-Data
returns-in-Data g c = carried_shown c.args.self.now c.args.datagram.now c.in-Data.drawop c.stream-in-Data.result c.number.result c.unknown_below.result c.in-Data.is c.stream-in-Data.ensures c.number.ensures.value c.unknown_below.ensures
