use Rattle.std.proofs.Common.{ap, sym, ◌∙◌}
use Rattle.srm_agent.proofs.Answered.{ignored_by}
use Rattle.srm_agent.proofs.Ignoring.{gone_enters, refused_as_read, heard_reads, read_enters, if_one, if_two}
use Rattle.srm_entries.specs.declared.cause.Cause.TheVariants as causes
use Rattle.srm_entries.specs.declared.entry.Input.TheVariants.{Heard, Noise}
use Rattle.srm_agent.specs.Heeding.{entry_by}
use Rattle.srm_agent.proofs.agent.Agent.hear_noted.Goals as goal

pub returns-then-is_gone-clause-ok : goal.returns-then-is_gone-clause-ok
returns-then-is_gone-clause-ok g c = gone_enters g.W.Words.next_word c.args.self.now c.ignore-heard.new.self c.args.now c.moment-moment.result c.note_noise.result.entry (sym c.is_gone.ensures ∙ c.if-is_gone.true) c.ignore-heard.ensures.new
    (c.note_noise.ensures.entry ∙ ap (λ a. entry_by a c.moment-moment.result Noise c.ignore-heard.result) c.ignore-heard.ensures.new ∙ ignored_by c.args.self.now c.moment-moment.result Noise causes.Gone c.ignore-heard.result c.ignore-heard.ensures.heard)
    c.moment-moment.ensures.value

pub returns-in-Ok-clause-ok : goal.returns-in-Ok-clause-ok
returns-in-Ok-clause-ok g c = if_one c.hear_datagram_noted.result c.hear_datagram_noted.ensures.ok (λ noted enters. read_enters g.W.Words.next_word _ _ c.args.now c.moment-moment.result (Heard c.in-Ok.datagram) noted.entry c.moment-moment.ensures.value enters)

pub returns-in-Ok-clause-reading : goal.returns-in-Ok-clause-reading
returns-in-Ok-clause-reading g c = if_two c.hear_datagram_noted.result c.hear_datagram_noted.ensures.ok c.hear_datagram_noted.ensures.judged
    (λ noted enters by. heard_reads g.W.Words.next_word _ _ c.moment-moment.result c.session.result c.args.bytes.now c.in-Ok.datagram noted.entry (sym c.is_gone.ensures ∙ c.if-is_gone.false) (rw (← c.self.view_is) c.session.ensures) c.in-Ok.ensures.judged enters by)

pub returns-in-Ok-clause-spelled : goal.returns-in-Ok-clause-spelled
returns-in-Ok-clause-spelled g c = refused_as_read c.hear_datagram_noted.result c.session.result _ c.args.bytes.now c.in-Ok.datagram (rw (← c.self.view_is) c.session.ensures) c.in-Ok.ensures.judged
