use Rattle.std.proofs.Common.{arith}
use Rattle.srm_store.proofs.Gaps.{gaps_few}
use Rattle.srm_store.proofs.stream_places.StreamPlaces.know.Goals as goal

pub overflow_add-self : goal.overflow_add-self
overflow_add-self c = omega (arith, c.self.invariant.missing, c.self.invariant.known, c.requires, c.gaps_after.ensures, gaps_few c.self.inside.places c.max-known.result)
