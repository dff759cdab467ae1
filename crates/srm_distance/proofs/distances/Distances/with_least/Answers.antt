use Rattle.std.proofs.Common.{arith}
use Rattle.srm_distance.proofs.Steps.{fits_new}
use Rattle.srm_distance.proofs.Table.{kept_new}
use Rattle.srm_distance.proofs.distances.Distances.with_least.Goals as goal

pub invariant_of-result : goal.invariant_of-result
invariant_of-result c = kept_new c.args.least _ c.args.me _ c.unknown.result c.requires.shortest c.requires.longest (omega arith) c.index.ensures.value c.index.ensures.below (c.unknown.ensures.fits 0) c.unknown.ensures.range

pub returns : goal.returns
returns c = record { fits = fits_new c.args.least c.args.me c.unknown.result c.unknown.ensures.fits }
