use Rattle.std.proofs.Common.{◌≡◌, arith, ap, ◌∙◌}
use Rattle.srm_store.specs.Places.{gaps_up_to}
use Rattle.srm_store.proofs.Gaps.{gaps_more}
use Rattle.srm_store.proofs.places.Places.gaps_after.Goals as goal

pub loop-number-preserved : goal.loop-number-preserved
loop-number-preserved c = record {
  so_far = omega (arith, gaps_more c.args.self.now c.loop-number.number, c.loop-number.invariant.so_far, c.gap_at-count.ensures.value);
  few = omega (arith, c.loop-number.invariant.few, c.gap_at-count.ensures.few);
}

pub returns : goal.returns
returns c =
    let e : c.args.last ≡ c.loop-number.number = omega (arith, c.loop-number-test.false, c.loop-number.auto.number-end c.requires.rising) in
    ap (gaps_up_to c.args.self.now) e ∙ c.loop-number.invariant.so_far
