use Rattle.std.proofs.Common.{◌+◌, [], ◌∷◌, sym, ap, subst, ◌∙◌, arith}
use Rattle.srm_timers.specs.Arms.{low_of, high_of, AreChosen, AreAsks, Plan, AreOfMembers}
use Rattle.srm_timers.specs.AskCalls.{again_plan}
use Rattle.srm_timers.specs.Distances.{distance_to}
use Rattle.srm_timers.specs.Expiries.{AreShort}
use Rattle.srm_deadlines.specs.Places.{value_at}
use Rattle.srm_timers.proofs.Arming.{plans_more, chosen-append, short_more, asks_more, members_more}
use Rattle.srm_timers.proofs.AskSteps.{ask_plan_is, again_is}
use Rattle.srm_timers.proofs.asks.Asks.again.Goals as goal

pub loop-name-preserved : goal.loop-name-preserved
loop-name-preserved g c =
    let items = rw c.unwrap.ensures at c.push.ensures.items in
    let len = rw c.unwrap.ensures at c.push.ensures.len in
    record {
      plans = plans_more (again_plan c.args.dist.now (value_at c.args.self.now.timers)) c.args.names.now c.loop-name.name-index c.name-item.result c.loop-name.arms.items _ c.arm-arm.result c.loop-name-test.true c.name-item.is c.loop-name.invariant.plans items
          (c.arm-arm.ensures.plan ∙ ask_plan_is c.name-item.result _ _ _ _ (c.distance_in.ensures.value ∙ ap (distance_to c.args.dist.now) c.source.ensures) (again_is (value_at c.args.self.now.timers c.name-item.result) _ (sym c.exponent_when_due.ensures.value ∙ c.unwrap-exponent.ensures)));
      chosen = subst (λ arms. AreChosen g.W.Words.next_word (low_of c.args.self.now.c1) (high_of c.args.self.now.c1 c.args.self.now.c2) c.args.words.now arms c.arm-arm.new.words) (sym items)
          (chosen-append g.W.Words.next_word _ _ c.args.words.now c.loop-name.words c.arm-arm.new.words c.loop-name.arms.items (c.arm-arm.result ∷ []) c.loop-name.invariant.chosen c.arm-arm.ensures.chosen);
      asks = subst AreAsks (sym items) (asks_more c.loop-name.arms.items c.arm-arm.result c.loop-name.invariant.asks c.arm-arm.ensures.ask);
      short = subst AreShort (sym items) (short_more c.loop-name.arms.items c.arm-arm.result c.loop-name.invariant.short c.arm-arm.ensures.short);
      members = subst AreOfMembers (sym items) (members_more c.name-item.result _ c.loop-name.arms.items c.arm-arm.result c.loop-name.invariant.members (ap (λ (p : Plan). p.name) c.arm-arm.ensures.plan) c.source.ensures c.distance_in.ensures.member);
      few = len ∙ ap (λ n. n + 1) c.loop-name.invariant.few;
      room = omega (arith, c.push.ensures.capacity, c.loop-name.invariant.room);
    }
