use Rattle.std.proofs.Common.{◌∙◌, ap}
use Rattle.srm_entries.specs.Entries.{held, evidence_in}
use Rattle.srm_entries.specs.Giving.{is_some_of}
use Rattle.srm_entries.specs.Verdicts.{settlings}
use Rattle.srm_agent.proofs.agent.Agent.is_all.Goals as goal

pub returns : goal.returns
returns g c = λ s made past h.
    let fits = rw (← c.self.view_is) at h in
    c.is_final.ensures ∙ ap (is_some_of c.args.given) (c.final_of.ensures.value (held past) (evidence_in past) (settlings past) fits.store)
