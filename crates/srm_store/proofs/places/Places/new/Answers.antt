use Rattle.std.proofs.Common.{subst, sym}
use Rattle.srm_store.specs.Places.{EndsInTime}
use Rattle.srm_store.proofs.Placing.{ends_blank}
use Rattle.srm_store.proofs.places.Places.new.Goals as goal

pub invariant_of-result : goal.invariant_of-result
invariant_of-result c = subst EndsInTime (sym c.new.ensures.items) ends_blank
