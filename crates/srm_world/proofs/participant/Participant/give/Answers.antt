use Rattle.std.proofs.Common.{refl}
use Rattle.srm_names.proofs.Results.{at_err}
use Rattle.srm_world.proofs.Going.{gives_on, stays_with, agent_stays}
use Rattle.srm_world.proofs.participant.Participant.give.Goals as goal

pub returns-in_err-reserve-clause-err : goal.returns-in_err-reserve-clause-err
returns-in_err-reserve-clause-err g c = rw (← c.self.view_is) (at_err _ (stays_with c.args.slot _ _ (agent_stays _) c.reserve.ensures.same refl refl refl))

pub returns-in_err-answer-clause-err : goal.returns-in_err-answer-clause-err
returns-in_err-answer-clause-err g c = rw (← c.self.view_is) (at_err _ (stays_with c.args.slot _ _ c.in_err-answer.ensures.err c.in_ok-reserve.ensures.same refl refl refl))

pub returns-clause-ok : goal.returns-clause-ok
returns-clause-ok g c = rw (← c.self.view_is, c.note.ensures) (gives_on g.W.Words.next_word c.args.slot _ _ c.reserve.new.self c.in_ok-answer.field-0.entry c.in_ok-answer.field-0.answer c.message_of.result c.in_ok-answer.ensures.ok
    c.in_ok-answer.ensures.answer c.message_of.ensures c.in_ok-reserve.ensures.same c.give.ensures refl refl refl)
