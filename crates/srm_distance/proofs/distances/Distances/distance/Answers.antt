use Rattle.std.proofs.Common.{ap, ◌∙◌}
use Rattle.srm_distance.specs.Distance as defined
use Rattle.srm_distance.proofs.Table.{is_table, longest, only_to_oneself}
use Rattle.srm_distance.proofs.distances.Distances.distance.Goals as goal

pub returns-clause-value : goal.returns-clause-value
returns-clause-value c = rw (← c.self.view_is) (λ least me calls fits.
    (is_table _ c.self.inside.table c.self.invariant).each least me calls fits c.index.result c.index.ensures.below ∙ ap (defined.distance least calls me) c.index.ensures.value)

pub returns-clause-to_oneself : goal.returns-clause-to_oneself
returns-clause-to_oneself c = rw (← c.self.view_is, ← c.index.ensures.value) (only_to_oneself c.self.inside c.index.result c.index.ensures.below c.self.invariant)

pub returns-clause-longest : goal.returns-clause-longest
returns-clause-longest c = longest c.self.inside c.index.result c.self.invariant
