use Rattle.std.proofs.Common.{sym, ◌∙◌}
use Rattle.srm_agent.proofs.Passing.{ticks_gone}
use Rattle.srm_agent.proofs.agent.Agent.tick_alone.Goals as goal

pub returns-then-is_gone-clause-ok : goal.returns-then-is_gone-clause-ok
returns-then-is_gone-clause-ok g c = ticks_gone g.W.Words.next_word _ _ c.args.now c.moment-moment.result c.rest.result (sym c.is_gone.ensures ∙ c.if-is_gone.true) c.rest.ensures.new c.rest.ensures.idle c.rest.ensures.state c.moment-moment.ensures.value
