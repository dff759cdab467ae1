use Rattle.std.proofs.Common.{◌∙◌, ap}
use Rattle.std.specs.Prelude.{option_map}
use Rattle.srm_names.specs.Names.{named}
use Rattle.srm_entries.specs.Entries.{held, evidence_in}
use Rattle.srm_entries.specs.Sessions.{if_positive}
use Rattle.srm_entries.specs.Verdicts.{settlings}
use Rattle.srm_agent.proofs.Rows.{row_spelled}
use Rattle.srm_agent.proofs.agent.Agent.row.Goals as goal

pub returns : goal.returns
returns g c = record {
  value = λ s made past h.
      let fits = rw (← c.self.view_is) at h in
      c.numbered.ensures ∙ ap (λ k. option_map (named c.args.stream.now) (if_positive k)) (c.known.ensures.value (held past) (evidence_in past) (settlings past) fits.store);
  spelled = row_spelled c.args.stream.now c.known.result c.numbered.result c.stream_in_range.ensures.source c.stream_in_range.ensures.page c.known.ensures.last c.numbered.ensures;
}
