use Rattle.std.proofs.Common.{sym, ◌∙◌, ap}
use Rattle.std.proofs.lemmas.Bool.{eqb-true}
use Rattle.srm_entries.specs.Configs.{Config}
use Rattle.srm_entries.specs.Entries.{held, evidence_in, known}
use Rattle.srm_entries.specs.Verdicts.{settlings}
use Rattle.srm_agent.proofs.Deciding.{own_undrawn}
use Rattle.srm_agent.proofs.agent.Agent.is_own_undrawn.Goals as goal

pub returns-then-eq : goal.returns-then-eq
returns-then-eq g c = λ s made past h.
    let fits = rw (← c.self.view_is) at h in
    own_undrawn s made past _ c.args.name c.known.result c.number.result fits (sym c.source.ensures ∙ eqb-true _ _ (sym c.if-eq.ensures) ∙ c.me.ensures ∙ ap (λ (x : Config). x.me) fits.config)
    (c.known.ensures.value (held past) (evidence_in past) (settlings past) fits.store ∙ ap (known past) c.stream.ensures) c.number.ensures.value
