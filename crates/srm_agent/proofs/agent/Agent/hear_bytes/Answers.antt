use Rattle.std.proofs.Common.{sym, ◌∙◌}
use Rattle.srm_agent.proofs.Answered.{hears_datagram, hears_gone, hears_noise}
use Rattle.srm_agent.proofs.Ignoring.{if_two}
use Rattle.srm_agent.proofs.agent.Agent.hear_bytes.Goals as goal

pub returns-then-is_gone-clause-ok : goal.returns-then-is_gone-clause-ok
returns-then-is_gone-clause-ok g c = hears_gone g.W.Words.next_word c.args.self.now c.ignore.new.self c.args.now c.moment-moment.result c.args.bytes.now c.ignore.result (sym c.is_gone.ensures ∙ c.if-is_gone.true)
    c.ignore.ensures.new c.ignore.ensures.heard c.moment-moment.ensures.value

pub returns-in_ok-hear_datagram-in-Ok-clause-ok : goal.returns-in_ok-hear_datagram-in-Ok-clause-ok
returns-in_ok-hear_datagram-in-Ok-clause-ok g c = hears_datagram g.W.Words.next_word c.args.self.now c.hear_datagram.new.self c.args.now c.moment-moment.result c.session.result c.args.bytes.now c.in-Ok.datagram
    c.in_ok-hear_datagram-in-Ok.field-0.heard (sym c.is_gone.ensures ∙ c.if-is_gone.false) (rw (← c.self.view_is) c.session.ensures) c.in-Ok.ensures.judged c.moment-moment.ensures.value
    c.in_ok-hear_datagram-in-Ok.ensures.ok c.in_ok-hear_datagram-in-Ok.ensures.judged

pub returns-in-Err-clause-ok : goal.returns-in-Err-clause-ok
returns-in-Err-clause-ok g c = if_two c.hear_noise.result c.hear_noise.ensures.ok c.hear_noise.ensures.noise
    (λ heard enters noise. hears_noise g.W.Words.next_word c.args.self.now c.hear_noise.new.self c.args.now c.moment-moment.result c.session.result c.args.bytes.now c.in-Err.fault heard
    (sym c.is_gone.ensures ∙ c.if-is_gone.false) (rw (← c.self.view_is) c.session.ensures) c.in-Err.ensures.judged c.moment-moment.ensures.value enters noise)
