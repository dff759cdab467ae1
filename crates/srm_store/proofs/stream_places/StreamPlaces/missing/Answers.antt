use Rattle.std.proofs.Common.{arith}
use Rattle.srm_store.proofs.Gaps.{gaps_few}
use Rattle.srm_store.proofs.stream_places.StreamPlaces.missing.Goals as goal

pub returns-clause-last : goal.returns-clause-last
returns-clause-last c = omega (arith, c.self.invariant.missing, c.self.invariant.known, gaps_few c.self.inside.places c.self.inside.known)
