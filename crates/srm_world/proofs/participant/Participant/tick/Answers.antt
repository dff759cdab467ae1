use Rattle.std.proofs.Common.{refl}
use Rattle.std.specs.Prelude.{Some}
use Rattle.srm_entries.specs.declared.entry.Input.TheVariants.{Ticked}
use Rattle.srm_world.proofs.Going.{goes_on, sends_outs}
use Rattle.srm_world.proofs.participant.Participant.tick.Goals as goal

pub returns-clause-ok : goal.returns-clause-ok
returns-clause-ok g c = rw (c.note.ensures, c.tick_agent.ensures.rest) (goes_on g.W.Words.next_word (Some c.args.now) Ticked _ _ c.in_ok-answer.field-0.entry c.in_ok-answer.ensures.ok refl refl refl refl refl)

pub returns-clause-outs : goal.returns-clause-outs
returns-clause-outs g c = sends_outs g.W.Words.next_word (Some c.args.now) _ c.tick_agent.new.self.agent c.in_ok-answer.field-0.entry c.in_ok-answer.field-0.answer c.outs_of.result c.in_ok-answer.ensures.ok c.in_ok-answer.ensures.answer c.outs_of.ensures
