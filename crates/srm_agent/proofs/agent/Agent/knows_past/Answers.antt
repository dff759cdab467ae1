use Rattle.std.proofs.Common.{◌∙◌, ap}
use Rattle.std.specs.Prelude.{nat_lt}
use Rattle.srm_store.specs.Finals.{row_number}
use Rattle.srm_entries.specs.Entries.{held, evidence_in}
use Rattle.srm_entries.specs.Verdicts.{settlings}
use Rattle.srm_agent.proofs.agent.Agent.knows_past.Goals as goal

pub returns : goal.returns
returns g c = λ s made past h.
    let fits = rw (← c.self.view_is) at h in
    ap (λ n. nat_lt n c.known-known.result) c.row_number.ensures.value
    ∙ ap (nat_lt (row_number c.args.rows.now c.args.stream.now)) (c.known-known.ensures.value (held past) (evidence_in past) (settlings past) fits.store)
