use Rattle.std.proofs.Common.{◌∙◌, ap}
use Rattle.std.specs.Prelude.{is_some}
use Rattle.srm_entries.specs.Entries.{held, evidence_in}
use Rattle.srm_entries.specs.Verdicts.{settlings, told}
use Rattle.srm_agent.proofs.Leavers.{told_by_final}
use Rattle.srm_agent.proofs.agent.Agent.has_left.Goals as goal

pub returns : goal.returns
returns g c = record {
  is = λ s made past h.
      let fits = rw (← c.self.view_is) at h in
      c.is_some.ensures ∙ ap is_some (c.final_of.ensures.value (held past) (evidence_in past) (settlings past) fits.store) ∙ told_by_final (told past c.args.member) _;
}
