use Rattle.std.proofs.Common.{◌∙◌, ◌++◌, ap, sym, subst, arith, length, length-append, [], ◌∷◌}
use Rattle.srm_store.specs.Places.{SamePlaces, StillHas, EndsInTime}
use Rattle.srm_store.proofs.Placing.{same_places, still_has, same_after, still_after, same_more, still_more, ends_same, same_pushed, block_there, grown_same_places, same_made, still_made, ok_made, again_made}
use Rattle.std.proofs.lemmas.Result.{on_ok_weaker}
use Rattle.srm_store.proofs.places.Places.make.Goals as goal

pub loop-block-init : goal.loop-block-init
loop-block-init c = record {
  same = subst (λ b. SamePlaces b c.self.inside.blocks.items) c.self.view_is (same_places c.self.inside.blocks.items);
  still = subst (λ b. StillHas b c.self.inside.blocks.items) c.self.view_is (still_has c.self.inside.blocks.items);
  ends = c.self.invariant;
  so_far = omega (arith, c.self.inside.blocks.ok.0);
}

pub invariant_of-self : goal.invariant_of-self
invariant_of-self c = subst EndsInTime (sym c.in_err-push.ensures.items) c.loop-block.invariant.ends

pub returns-in_err-push-clause-same : goal.returns-in_err-push-clause-same
returns-in_err-push-clause-same c = same_after _ _ _ c.loop-block.invariant.same c.in_err-push.ensures.items

pub returns-in_err-push-clause-still : goal.returns-in_err-push-clause-still
returns-in_err-push-clause-still c = still_after _ _ _ c.loop-block.invariant.still c.in_err-push.ensures.items

pub returns-in_err-push-clause-again : goal.returns-in_err-push-clause-again
returns-in_err-push-clause-again c = λ there. absurd (omega (arith, c.loop-block.invariant.so_far, block_there c.loop-block.self-inside.blocks.items c.args.number (c.loop-block.invariant.still.each c.args.number there)))

pub loop-block-preserved : goal.loop-block-preserved
loop-block-preserved c = record {
  same = same_more _ _ _ c.loop-block.invariant.same (c.in_ok-push.ensures.items ∙ ap (λ b. c.loop-block.self-inside.blocks.items ++ b ∷ []) c.new.ensures);
  still = still_more _ _ _ c.loop-block.invariant.still (c.in_ok-push.ensures.items ∙ ap (λ b. c.loop-block.self-inside.blocks.items ++ b ∷ []) c.new.ensures);
  ends = ends_same _ _ c.loop-block.invariant.ends (same_pushed _ _ (c.in_ok-push.ensures.items ∙ ap (λ b. c.loop-block.self-inside.blocks.items ++ b ∷ []) c.new.ensures));
  so_far = omega (arith, c.loop-block.invariant.so_far, ap length c.in_ok-push.ensures.items, length-append c.loop-block.self-inside.blocks.items (c.new.result ∷ []));
}

pub index_mut-requires : goal.index_mut-requires
index_mut-requires c = omega (arith, c.loop-block.invariant.so_far, c.loop-block.self-inside.blocks.ok.0)

pub invariant_of-self-2 : goal.invariant_of-self-2
invariant_of-self-2 c = ends_same _ _ c.loop-block.invariant.ends (grown_same_places c.args.self.now c.loop-block.self-inside.blocks.items c.args.number _ _ (omega (arith, c.loop-block.invariant.so_far)) c.index_mut.ensures.value c.make.ensures.grown)

pub returns-clause-same : goal.returns-clause-same
returns-clause-same c = same_made c.args.self.now c.loop-block.self-inside.blocks.items c.args.number _ _ (omega (arith, c.loop-block.invariant.so_far)) c.index_mut.ensures.value c.make.ensures.grown c.loop-block.invariant.same

pub returns-clause-still : goal.returns-clause-still
returns-clause-still c = still_made c.args.self.now c.loop-block.self-inside.blocks.items c.args.number _ _ (omega (arith, c.loop-block.invariant.so_far)) c.index_mut.ensures.value c.make.ensures.grown c.loop-block.invariant.still

pub returns-clause-ok : goal.returns-clause-ok
returns-clause-ok c = on_ok_weaker c.make.result (ok_made c.args.self.now c.loop-block.self-inside.blocks.items c.args.number _ _ (omega (arith, c.loop-block.invariant.so_far)) c.index_mut.ensures.value c.make.ensures.grown) c.make.ensures.ok

pub returns-clause-again : goal.returns-clause-again
returns-clause-again c = λ there. c.make.ensures.again (again_made c.args.self.now c.loop-block.self-inside.blocks.items c.args.number _ _ (omega (arith, c.loop-block.invariant.so_far)) c.index_mut.ensures.value c.make.ensures.grown c.loop-block.invariant.still there)
