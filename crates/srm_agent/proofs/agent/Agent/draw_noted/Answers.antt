use Rattle.std.proofs.Common.{sym, ◌∙◌, ap, subst, Err}
use Rattle.srm_entries.specs.Verdicts.{first_cause}
use Rattle.srm_names.specs.declared.drawop.Drawop.{Drawop}
use Rattle.srm_codec.specs.Spelling.{is_drawop}
use Rattle.srm_agent.specs.Drawing.{verdict_of_refusal, refusals, drawn_entry, IsDraftOf}
use Rattle.srm_names.proofs.Results.{at_err}
use Rattle.srm_agent.proofs.Drawn.{draw_refused, draw_full, draw_unslotted, roomy_stays, own_draft, draw_done, draw_allowed}
use Rattle.srm_agent.proofs.Spellable.{drafted_spellable}
use Rattle.srm_agent.proofs.agent.Agent.draw_noted.Goals as goal

pub returns-in-Some-clause-ok : goal.returns-in-Some-clause-ok
returns-in-Some-clause-ok g c =
    draw_refused g.W.Words.next_word c.args.self.now c.args.now c.moment-moment.result c.args.page c.args.body c.in-Some.fault c.refused.result.entry
    (ap verdict_of_refusal (sym c.in-Some.is) ∙ c.refusal.ensures ∙ ap (λ k. first_cause (refusals c.args.self.now.state c.args.self.now.pages c.args.page k)) c.len.ensures.value)
    c.refused.ensures.entry c.moment-moment.ensures.value

pub returns-in_default-next_name-clause-ok : goal.returns-in_default-next_name-clause-ok
returns-in_default-next_name-clause-ok g c =
    draw_full g.W.Words.next_word c.args.self.now c.args.now c.moment-moment.result c.args.page c.args.body c.refused-in_default-next_name.result.entry
    (ap verdict_of_refusal (sym c.in_default.is) ∙ c.refusal.ensures ∙ ap (λ k. first_cause (refusals c.args.self.now.state c.args.self.now.pages c.args.page k)) c.len.ensures.value)
    (λ s made past h. sym c.in_default-next_name.is ∙ c.next_name.ensures.value s made past h) c.refused-in_default-next_name.ensures.entry c.moment-moment.ensures.value

pub returns-in-Err-PageLimit-clause-ok : goal.returns-in-Err-PageLimit-clause-ok
returns-in-Err-PageLimit-clause-ok g c =
    draw_unslotted g.W.Words.next_word c.args.self.now c.draft.new.self c.args.now c.moment-moment.result c.args.page c.args.body c.in-Some-next_name.name c.refused-in-Err-PageLimit.result.entry
    (ap verdict_of_refusal (sym c.in_default.is) ∙ c.refusal.ensures ∙ ap (λ k. first_cause (refusals c.args.self.now.state c.args.self.now.pages c.args.page k)) c.len.ensures.value)
    (λ s made past h. sym c.in-Some-next_name.is ∙ c.next_name.ensures.value s made past h) (c.draft.ensures.same (c.in-Err-PageLimit.is ∙ ap Err c.in-Err-PageLimit.field-0-is)) (c.draft.ensures.limit (c.in-Err-PageLimit.is ∙ ap Err c.in-Err-PageLimit.field-0-is))
    c.refused-in-Err-PageLimit.ensures.entry c.moment-moment.ensures.value

pub returns-in-Err-Memory-clause-err : goal.returns-in-Err-Memory-clause-err
returns-in-Err-Memory-clause-err g c = roomy_stays c.args.self.now c.draft.new.self c.draft.ensures.rest c.draft.ensures.store c.draft.ensures.bucket

pub returns-in_err-noted-clause-err : goal.returns-in_err-noted-clause-err
returns-in_err-noted-clause-err g c = at_err c.from_residual-in_err-noted.result (roomy_stays c.args.self.now c.draft.new.self c.draft.ensures.rest c.draft.ensures.store c.draft.ensures.bucket)

pub returns-clause-ok : goal.returns-clause-ok
returns-clause-ok g c =
    draw_done g.W.Words.next_word c.args.self.now c.draft.new.self c.take_up.new.self c.args.now c.moment-moment.result c.args.page c.args.body c.in-Some-next_name.name c.in-Ok.draft c.drew-entry.result
    (ap verdict_of_refusal (sym c.in_default.is) ∙ c.refusal.ensures ∙ ap (λ k. first_cause (refusals c.args.self.now.state c.args.self.now.pages c.args.page k)) c.len.ensures.value)
    (λ s made past h. sym c.in-Some-next_name.is ∙ c.next_name.ensures.value s made past h) c.moment-moment.ensures.value
    c.draft.ensures.rest c.draft.ensures.store c.draft.ensures.bucket (subst (λ bs. IsDraftOf c.args.self.now.config.session (record { name = c.in-Some-next_name.name; stamp = c.moment-moment.result; body = bs }) c.in-Ok.draft) c.in_ok-clone.ensures.cases c.in-Ok.ensures.made)
    (subst (λ bs. is_drawop (record { name = c.in-Some-next_name.name; stamp = c.moment-moment.result; body = bs })) c.in_ok-clone.ensures.cases c.in-Ok.ensures.spellable) c.take_up.ensures.rest c.take_up.ensures.store c.take_up.ensures.bucket
    (c.drew-entry.ensures ∙ ap (λ (d : Drawop). drawn_entry c.draft.new.self.config.me c.moment-moment.result c.args.page c.args.body d c.draft.new.self.state) c.in_ok-noted.ensures)

pub take_up-requires-clause-own : goal.take_up-requires-clause-own
take_up-requires-clause-own g c = own_draft c.args.self.now c.draft.new.self c.in-Some-next_name.name _ _ c.in-Ok.draft _ c.draft.ensures.rest c.in-Ok.ensures.made c.in-Some-next_name.is c.next_name.ensures.own

pub returns-in-Err-Memory-clause-allowed : goal.returns-in-Err-Memory-clause-allowed
returns-in-Err-Memory-clause-allowed g c =
    draw_allowed c.args.self.now c.args.page c.args.body c.in-Some-next_name.name (ap verdict_of_refusal (sym c.in_default.is) ∙ c.refusal.ensures ∙ ap (λ k. first_cause (refusals c.args.self.now.state c.args.self.now.pages c.args.page k)) c.len.ensures.value)
    (λ s made past h. sym c.in-Some-next_name.is ∙ c.next_name.ensures.value s made past h)

pub returns-in_err-clone-clause-allowed : goal.returns-in_err-clone-clause-allowed
returns-in_err-clone-clause-allowed g c =
    at_err c.from_residual.result (draw_allowed c.args.self.now c.args.page c.args.body c.in-Some-next_name.name (ap verdict_of_refusal (sym c.in_default.is) ∙ c.refusal.ensures ∙ ap (λ k. first_cause (refusals c.args.self.now.state c.args.self.now.pages c.args.page k)) c.len.ensures.value)
    (λ s made past h. sym c.in-Some-next_name.is ∙ c.next_name.ensures.value s made past h))

pub returns-in_err-noted-clause-allowed : goal.returns-in_err-noted-clause-allowed
returns-in_err-noted-clause-allowed g c =
    at_err c.from_residual-in_err-noted.result (draw_allowed c.args.self.now c.args.page c.args.body c.in-Some-next_name.name (ap verdict_of_refusal (sym c.in_default.is) ∙ c.refusal.ensures ∙ ap (λ k. first_cause (refusals c.args.self.now.state c.args.self.now.pages c.args.page k)) c.len.ensures.value)
    (λ s made past h. sym c.in-Some-next_name.is ∙ c.next_name.ensures.value s made past h))

pub take_up-requires-clause-spellable : goal.take_up-requires-clause-spellable
take_up-requires-clause-spellable g c = drafted_spellable _ _ c.in-Ok.draft c.in-Ok.ensures.made c.in-Ok.ensures.spellable
