use Rattle.srm_entries.specs.Entries.{held, evidence_in}
use Rattle.srm_entries.specs.Verdicts.{settlings}
use Rattle.srm_agent.proofs.agent.Agent.next_missing.Goals as goal

pub returns : goal.returns
returns g c = λ s made past h.
    let fits = rw (← c.self.view_is) at h in
    c.next_missing.ensures (held past) (evidence_in past) (settlings past) fits.store
