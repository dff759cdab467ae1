use Rattle.std.proofs.Common.{sym, ◌∙◌, ap, inl, inr, refl, rules}
use Rattle.std.specs.Prelude.{Err, None}
use Rattle.srm_entries.specs.declared.entry.Input.TheVariants.{Drew}
use Rattle.srm_entries.specs.declared.entry.Verdict.TheVariants.{Refused}
use Rattle.srm_entries.specs.declared.fault.AgentFault.TheVariants as faults
use Rattle.srm_entries.specs.Verdicts.{first_cause}
use Rattle.srm_agent.specs.Drawing.{verdict_of_refusal, refusals}
use Rattle.srm_entries.specs.Still.{entry_without_effects}
use Rattle.srm_agent.proofs.Drawn.{draw_refused, draw_full, draw_unslotted, roomy_stays, own_draft, draw_done, draw_allowed, draw_refuses, draw_names}
use Rattle.srm_agent.proofs.Spellable.{drafted_spellable}
use Rattle.srm_agent.proofs.agent.Agent.draw.Goals as goal

pub returns-in-Some : goal.returns-in-Some
returns-in-Some g c = inl (draw_refuses g.W.Words.next_word c.args.self.now c.args.self.now c.args.now c.moment-moment.result c.args.page c.args.body c.in-Some.fault
    (draw_refused g.W.Words.next_word c.args.self.now c.args.now c.moment-moment.result c.args.page c.args.body c.in-Some.fault _
    (ap verdict_of_refusal (sym c.in-Some.is) ∙ c.refusal.ensures ∙ ap (λ k. first_cause (refusals c.args.self.now.state c.args.self.now.pages c.args.page k)) c.len.ensures.value) refl c.moment-moment.ensures.value))

pub returns-in_default-next_name : goal.returns-in_default-next_name
returns-in_default-next_name g c = inl (draw_refuses g.W.Words.next_word c.args.self.now c.args.self.now c.args.now c.moment-moment.result c.args.page c.args.body faults.StreamFull
    (draw_full g.W.Words.next_word c.args.self.now c.args.now c.moment-moment.result c.args.page c.args.body _
    (ap verdict_of_refusal (sym c.in_default.is) ∙ c.refusal.ensures ∙ ap (λ k. first_cause (refusals c.args.self.now.state c.args.self.now.pages c.args.page k)) c.len.ensures.value)
    (λ s made past h. sym c.in_default-next_name.is ∙ c.next_name.ensures.value s made past h) refl c.moment-moment.ensures.value))

pub returns-in-Err-PageLimit : goal.returns-in-Err-PageLimit
returns-in-Err-PageLimit g c = inl (draw_refuses g.W.Words.next_word c.args.self.now c.draft.new.self c.args.now c.moment-moment.result c.args.page c.args.body faults.PageLimit
    (draw_unslotted g.W.Words.next_word c.args.self.now c.draft.new.self c.args.now c.moment-moment.result c.args.page c.args.body c.in-Some-next_name.name _
    (ap verdict_of_refusal (sym c.in_default.is) ∙ c.refusal.ensures ∙ ap (λ k. first_cause (refusals c.args.self.now.state c.args.self.now.pages c.args.page k)) c.len.ensures.value)
    (λ s made past h. sym c.in-Some-next_name.is ∙ c.next_name.ensures.value s made past h) (c.draft.ensures.same (c.in-Err-PageLimit.is ∙ ap Err c.in-Err-PageLimit.field-0-is)) (c.draft.ensures.limit (c.in-Err-PageLimit.is ∙ ap Err c.in-Err-PageLimit.field-0-is))
    (ap (λ a. entry_without_effects a.config.me c.moment-moment.result (Drew c.args.page c.args.body) (Refused faults.PageLimit) None a.state) (sym (c.draft.ensures.same (c.in-Err-PageLimit.is ∙ ap Err c.in-Err-PageLimit.field-0-is)))) c.moment-moment.ensures.value))

pub returns-in-Err-Memory : goal.returns-in-Err-Memory
returns-in-Err-Memory g c = inr (
  refl,
  draw_allowed c.args.self.now c.args.page c.args.body c.in-Some-next_name.name (ap verdict_of_refusal (sym c.in_default.is) ∙ c.refusal.ensures ∙ ap (λ k. first_cause (refusals c.args.self.now.state c.args.self.now.pages c.args.page k)) c.len.ensures.value)
      (λ s made past h. sym c.in-Some-next_name.is ∙ c.next_name.ensures.value s made past h),
  roomy_stays c.args.self.now c.draft.new.self c.draft.ensures.rest c.draft.ensures.store c.draft.ensures.bucket,
)

pub returns : goal.returns
returns g c = inl (draw_names g.W.Words.next_word c.args.self.now c.draft.new.self c.take_up.new.self c.args.now c.moment-moment.result c.args.page c.args.body c.in-Some-next_name.name c.in-Ok.draft (search rules)
    (draw_done g.W.Words.next_word c.args.self.now c.draft.new.self c.take_up.new.self c.args.now c.moment-moment.result c.args.page c.args.body c.in-Some-next_name.name c.in-Ok.draft _
    (ap verdict_of_refusal (sym c.in_default.is) ∙ c.refusal.ensures ∙ ap (λ k. first_cause (refusals c.args.self.now.state c.args.self.now.pages c.args.page k)) c.len.ensures.value)
    (λ s made past h. sym c.in-Some-next_name.is ∙ c.next_name.ensures.value s made past h) c.moment-moment.ensures.value
    c.draft.ensures.rest c.draft.ensures.store c.draft.ensures.bucket (search rules) (search rules) c.take_up.ensures.rest c.take_up.ensures.store c.take_up.ensures.bucket refl))

pub take_up-requires-clause-own : goal.take_up-requires-clause-own
take_up-requires-clause-own g c = own_draft c.args.self.now c.draft.new.self c.in-Some-next_name.name _ _ c.in-Ok.draft _ c.draft.ensures.rest c.in-Ok.ensures.made c.in-Some-next_name.is c.next_name.ensures.own

pub take_up-requires-clause-spellable : goal.take_up-requires-clause-spellable
take_up-requires-clause-spellable g c = drafted_spellable _ _ c.in-Ok.draft c.in-Ok.ensures.made c.in-Ok.ensures.spellable
