use Rattle.srm_timers.proofs.TimerSteps.{arm_place, front_more, front_all}
use Rattle.srm_timers.proofs.timers.set_timers.Goals as goal

pub set-requires : goal.set-requires
set-requires c = arm_place c.args.arms.now c.loop-arm.arm-index c.arm-item.result _ _ c.loop-arm-test.true c.arm-item.is c.requires.places c.loop-arm.invariant.keeps_places

pub loop-arm-preserved : goal.loop-arm-preserved
loop-arm-preserved c = record {
  sets = front_more c.args.now c.args.arms.now c.loop-arm.arm-index c.arm-item.result c.arm_at.result _ _ _ c.loop-arm-test.true c.arm-item.is c.arm_at.ensures c.loop-arm.invariant.sets c.set.ensures.sets;
  keeps_places = record { each = λ n h. c.set.ensures.keeps_places.each n (c.loop-arm.invariant.keeps_places.each n h) };
}

pub returns-clause-sets : goal.returns-clause-sets
returns-clause-sets c = front_all c.args.now c.args.arms.now c.loop-arm.arm-index _ _ c.loop-arm-test.false c.requires.rising c.loop-arm.invariant.sets
