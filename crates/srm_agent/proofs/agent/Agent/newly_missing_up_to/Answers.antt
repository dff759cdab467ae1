use Rattle.srm_entries.specs.Entries.{held, evidence_in}
use Rattle.srm_entries.specs.Verdicts.{settlings}
use Rattle.srm_agent.proofs.Ignoring.{if_one}
use Rattle.srm_agent.proofs.Requested.{up_to_is}
use Rattle.srm_agent.proofs.agent.Agent.newly_missing_up_to.Goals as goal

pub returns-clause-value : goal.returns-clause-value
returns-clause-value g c = if_one c.names_between.result c.names_between.ensures (λ newly_missing exactly. record {
  each = λ s made past h.
      let fits = rw (← c.self.view_is) at h in
      up_to_is c.args.stream.now _ _ c.known-known.result c.greatest_in-last.result newly_missing.items (c.known-known.ensures.value (held past) (evidence_in past) (settlings past) fits.store) c.greatest_in-last.ensures.value exactly;
})

pub returns-clause-rising : goal.returns-clause-rising
returns-clause-rising g c = if_one c.names_between.result c.names_between.ensures (λ newly_missing exactly. exactly.in_order)
