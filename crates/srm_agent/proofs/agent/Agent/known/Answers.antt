use Rattle.srm_entries.specs.Entries.{held, evidence_in}
use Rattle.srm_entries.specs.Verdicts.{settlings}
use Rattle.srm_agent.proofs.agent.Agent.known.Goals as goal

pub returns-clause-value : goal.returns-clause-value
returns-clause-value g c = λ s made past h.
    let fits = rw (← c.self.view_is) at h in
    c.known.ensures.value (held past) (evidence_in past) (settlings past) fits.store
