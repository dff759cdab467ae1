use Rattle.std.proofs.Common.{sym, ap, ◌∙◌}
use Rattle.srm_deadlines.specs.Places.{value_at}
use Rattle.srm_deadlines.proofs.Tables.{value_found, flat, at_some}
use Rattle.srm_deadlines.proofs.by_name.ByName.place.Goals as goal

pub returns-clause-value : goal.returns-clause-value
returns-clause-value g c =
    ap (λ places. value_at places c.unwrap.result.0.now) (sym c.self.view_is) ∙ value_found _ c.unwrap.result.0.now
    ∙ ap flat (at_some _ _ _ c.unwrap.ensures c.get_index.ensures.value)
