use Rattle.std.proofs.Common.{subst, ap, arith, length, length-append, None, [], ◌∷◌}
use Rattle.srm_store.specs.Places.{Grown}
use Rattle.srm_store.proofs.Placing.{grown_itself, grown_more, grown_same}
use Rattle.srm_store.proofs.block.Block.make.Goals as goal

pub loop-place-init : goal.loop-place-init
loop-place-init c = record {
  grown = subst (λ b. Grown b c.self.inside.places.items) c.self.view_is (grown_itself c.self.inside.places.items);
  so_far = omega (arith, c.self.inside.places.ok.0);
}

pub returns-in_err-push-clause-grown : goal.returns-in_err-push-clause-grown
returns-in_err-push-clause-grown c = grown_same _ _ _ c.loop-place.invariant.grown (c.in_err-push.ensures.items)

pub returns-in_err-push-clause-again : goal.returns-in_err-push-clause-again
returns-in_err-push-clause-again c = λ there. absurd (omega (arith, there, c.loop-place.invariant.so_far, c.loop-place.invariant.grown.longer))

pub loop-place-preserved : goal.loop-place-preserved
loop-place-preserved c = record {
  grown = grown_more _ _ _ c.loop-place.invariant.grown c.in_ok-push.ensures.items;
  so_far = omega (arith, c.loop-place.invariant.so_far, ap length c.in_ok-push.ensures.items, length-append c.loop-place.self-inside.places.items (None ∷ []));
}

pub returns-clause-grown : goal.returns-clause-grown
returns-clause-grown c = c.loop-place.invariant.grown

pub returns-clause-ok : goal.returns-clause-ok
returns-clause-ok c = omega (arith, c.loop-place.invariant.so_far)
