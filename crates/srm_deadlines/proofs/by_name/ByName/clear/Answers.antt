use Rattle.std.proofs.Common.{sym, ◌∙◌}
use Rattle.srm_deadlines.proofs.Tables.{sets_nothing}
use Rattle.srm_deadlines.proofs.by_name.ByName.clear.Goals as goal

pub returns-else-has_place-clause-sets : goal.returns-else-has_place-clause-sets
returns-else-has_place-clause-sets g c = sets_nothing _ c.args.name (sym c.has_place.ensures ∙ c.if-has_place.false)
