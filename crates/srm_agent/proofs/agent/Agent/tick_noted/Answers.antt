use Rattle.std.proofs.Common.{ap, sym, ◌∙◌}
use Rattle.srm_agent.specs.Contents.{AgentContent}
use Rattle.srm_agent.proofs.Passing.{ticks_gone, ticks_at, note_enters, note_answers}
use Rattle.srm_agent.proofs.agent.Agent.tick_noted.Goals as goal

pub returns-then-is_gone-clause-ok : goal.returns-then-is_gone-clause-ok
returns-then-is_gone-clause-ok g c = note_enters g.W.Words.next_word _ _ c.args.now c.moment-moment.result c.me-me.result c.rest.result c.note_idle.result.entry (c.me-me.ensures ∙ ap (λ (a : AgentContent _). a.config.me) c.self.view_is) c.moment-moment.ensures.value c.note_idle.ensures.entry
    (ticks_gone g.W.Words.next_word _ _ c.args.now c.moment-moment.result c.rest.result (sym c.is_gone.ensures ∙ c.if-is_gone.true) c.rest.ensures.new c.rest.ensures.idle c.rest.ensures.state c.moment-moment.ensures.value)

pub returns-then-is_gone-clause-answer : goal.returns-then-is_gone-clause-answer
returns-then-is_gone-clause-answer g c = note_answers g.W.Words.next_word _ _ c.args.now c.moment-moment.result c.me-me.result c.rest.result c.note_idle.result.entry c.note_idle.result.answer c.note_idle.ensures.entry c.note_idle.ensures.answer
    (ticks_gone g.W.Words.next_word _ _ c.args.now c.moment-moment.result c.rest.result (sym c.is_gone.ensures ∙ c.if-is_gone.true) c.rest.ensures.new c.rest.ensures.idle c.rest.ensures.state c.moment-moment.ensures.value)

pub returns-then-is_early-clause-ok : goal.returns-then-is_early-clause-ok
returns-then-is_early-clause-ok g c = note_enters g.W.Words.next_word _ _ c.args.now c.moment-moment.result c.me-me.result c.wait.result c.note_idle-then-is_early.result.entry (c.me-me.ensures ∙ ap (λ (a : AgentContent _). a.config.me) c.self.view_is) c.moment-moment.ensures.value c.note_idle-then-is_early.ensures.entry
    (ticks_at g.W.Words.next_word _ _ c.args.now c.moment-moment.result _ c.moment-moment.ensures.value c.wait.ensures.ticks)

pub returns-then-is_early-clause-answer : goal.returns-then-is_early-clause-answer
returns-then-is_early-clause-answer g c = note_answers g.W.Words.next_word _ _ c.args.now c.moment-moment.result c.me-me.result c.wait.result c.note_idle-then-is_early.result.entry c.note_idle-then-is_early.result.answer c.note_idle-then-is_early.ensures.entry c.note_idle-then-is_early.ensures.answer
    (ticks_at g.W.Words.next_word _ _ c.args.now c.moment-moment.result _ c.moment-moment.ensures.value c.wait.ensures.ticks)

pub returns-clause-ok : goal.returns-clause-ok
returns-clause-ok g c = note_enters g.W.Words.next_word _ _ c.args.now c.moment-moment.result c.me-me.result c.in_ok-acted.acted.ticked c.note.result.entry (c.me-me.ensures ∙ ap (λ (a : AgentContent _). a.config.me) c.self.view_is) c.moment-moment.ensures.value c.note.ensures.entry
    (ticks_at g.W.Words.next_word _ _ c.args.now c.moment-moment.result _ c.moment-moment.ensures.value c.in_ok-acted.ensures.ok)

pub returns-clause-answer : goal.returns-clause-answer
returns-clause-answer g c = note_answers g.W.Words.next_word _ _ c.args.now c.moment-moment.result c.me-me.result c.in_ok-acted.acted.ticked c.note.result.entry c.note.result.answer c.note.ensures.entry c.note.ensures.answer
    (ticks_at g.W.Words.next_word _ _ c.args.now c.moment-moment.result _ c.moment-moment.ensures.value c.in_ok-acted.ensures.ok)
