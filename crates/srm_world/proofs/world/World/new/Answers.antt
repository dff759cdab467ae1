use Rattle.std.proofs.Common.{ap, ◌≤◌, length, refl, subst, arith}
use Rattle.srm_world.specs.Sent.{all_of}
use Rattle.srm_world.proofs.Beginning.{HaveBegun, none_begun, one_more_begun, begun_trace, begun_world, no_source_taken, source_taken, all_taken}
use Rattle.srm_world.proofs.Wording.{same_played}
use Rattle.srm_world.proofs.world.World.new.Goals as goal

pub loop-config-init : goal.loop-config-init
loop-config-init g c = record {
  begun = none_begun c.deref-config-items.result.now c.new-starts.result.items c.new-participants.result.items c.new-starts.ensures.items c.new-participants.ensures.items;
  words = omega (arith, c.into_iter-words.ensures.len, c.requires.words, ap length c.deref-config-items.ensures.value, c.args.words.ok.0);
  sources = no_source_taken _ _ _ c.new-participants.ensures.items c.into_iter-words.ensures.rest;
}

pub next_source-words-requires : goal.next_source-words-requires
next_source-words-requires g c = omega (arith, c.loop-config.invariant.words, c.loop-config-test.true)

pub loop-config-preserved : goal.loop-config-preserved
loop-config-preserved g c = record {
  begun = one_more_begun c.deref-config-items.result.now c.loop-config.config-index c.loop-config.starts.items c.push-in-loop-config.new.self.items c.loop-config.participants.items c.push.new.self.items
      c.config-item.result c.in_ok-new.field-0 c.loop-config.invariant.begun c.loop-config-test.true c.config-item.is c.in_ok-new.ensures.fits c.in_ok-push-2.ensures.items c.in_ok-push.ensures.items;
  words = omega (arith, c.next_source-words.ensures.len, c.loop-config.invariant.words);
  sources = source_taken _ _ _ _ _ _ _ c.in_ok-push.ensures.items c.in_ok-new.ensures.words c.next_source-words.ensures.items c.loop-config.invariant.sources;
}

pub invariant_of-result : goal.invariant_of-result
invariant_of-result g c =
    begun_world c.args.configs.items c.loop-config.config-index c.loop-config.starts.items c.loop-config.participants.items (all_of c.new-2.result) c.new-3.result.items _
    (subst (λ (xs : _). HaveBegun xs c.loop-config.config-index c.loop-config.starts.items c.loop-config.participants.items) c.deref-config-items.ensures.value c.loop-config.invariant.begun)
    (subst (λ (xs : _). length xs ≤ c.loop-config.config-index) c.deref-config-items.ensures.value c.loop-config-test.false) c.requires.roster c.new-2.ensures c.new-3.ensures.items refl

pub returns : goal.returns
returns g c = same_played _ _ _ _
    (begun_trace c.args.configs.items c.loop-config.config-index c.loop-config.starts.items c.loop-config.participants.items c.new-3.result.items _
    (subst (λ (xs : _). HaveBegun xs c.loop-config.config-index c.loop-config.starts.items c.loop-config.participants.items) c.deref-config-items.ensures.value c.loop-config.invariant.begun)
    (subst (λ (xs : _). length xs ≤ c.loop-config.config-index) c.deref-config-items.ensures.value c.loop-config-test.false) c.new-3.ensures.items refl)
    (all_taken c.loop-config.participants.items _ c.args.words.items
    (omega (arith, c.requires.words, ap length c.deref-config-items.ensures.value, c.loop-config.invariant.begun.count, c.loop-config-test.false)) c.loop-config.invariant.sources)
