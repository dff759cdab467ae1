use Rattle.std.proofs.Common.{sym, ap, ◌∙◌}
use Rattle.srm_deadlines.specs.Places.{has_place}
use Rattle.srm_deadlines.proofs.Tables.{place_found}
use Rattle.srm_deadlines.proofs.by_name.ByName.has_place.Goals as goal

pub returns : goal.returns
returns g c = c.contains_key.ensures ∙ sym (place_found _ c.args.name) ∙ ap (λ places. has_place places c.args.name) c.self.view_is
