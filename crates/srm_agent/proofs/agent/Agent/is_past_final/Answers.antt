use Rattle.std.proofs.Common.{sym, ◌∙◌, ap}
use Rattle.std.specs.Prelude.{nat_lt}
use Rattle.srm_entries.specs.Entries.{held, evidence_in}
use Rattle.srm_entries.specs.Verdicts.{settlings, final, exceeds}
use Rattle.srm_agent.proofs.agent.Agent.is_past_final.Goals as goal

pub returns-in-Some : goal.returns-in-Some
returns-in-Some g c = λ s made past h.
    let fits = rw (← c.self.view_is) at h in
    ap (nat_lt c.in-Some.last) c.number.ensures.value
    ∙ ap (exceeds c.args.name.number) (sym c.in-Some.is ∙ c.final_of.ensures.value (held past) (evidence_in past) (settlings past) fits.store ∙ ap (final past) c.stream.ensures)

pub returns-in-None : goal.returns-in-None
returns-in-None g c = λ s made past h.
    let fits = rw (← c.self.view_is) at h in
    ap (exceeds c.args.name.number) (sym c.in-None.is ∙ c.final_of.ensures.value (held past) (evidence_in past) (settlings past) fits.store ∙ ap (final past) c.stream.ensures)
