use Rattle.std.proofs.Common.{ap, ◌∙◌}
use Rattle.srm_entries.specs.Entries.{held, evidence_in, known}
use Rattle.srm_entries.specs.Verdicts.{settlings}
use Rattle.srm_agent.proofs.Ignoring.{if_one}
use Rattle.srm_agent.proofs.Taken.{below_is}
use Rattle.srm_agent.proofs.agent.Agent.newly_missing_below.Goals as goal

pub returns-clause-value : goal.returns-clause-value
returns-clause-value g c = if_one c.names_between.result c.names_between.ensures (λ names exactly. record {
  each = λ s made past h.
      let fits = rw (← c.self.view_is) at h in
      below_is c.args.name c.stream-2.result c.known-known.result _ c.number.result names.items c.stream-2.ensures
      (c.known-known.ensures.value (held past) (evidence_in past) (settlings past) fits.store ∙ ap (known past) c.stream.ensures) c.number.ensures.value exactly;
})

pub returns-clause-rising : goal.returns-clause-rising
returns-clause-rising g c = if_one c.names_between.result c.names_between.ensures (λ names exactly. exactly.in_order)
