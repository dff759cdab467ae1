use Rattle.std.proofs.Common.{subst, sym, refl, arith}
use Rattle.srm_store.specs.Places.{FilledTo}
use Rattle.srm_store.proofs.Placing.{filled_blank}
use Rattle.srm_store.proofs.stream_places.StreamPlaces.new.Goals as goal

pub invariant_of-result : goal.invariant_of-result
invariant_of-result c = record {
  filled = subst (λ bs. FilledTo bs 0) (sym c.new.ensures) filled_blank;
  cursor = omega arith;
  known = omega arith;
  missing = refl;
}
