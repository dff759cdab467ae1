use Rattle.srm_deadlines.proofs.Moments.{one_more, place_of_turn}
use Rattle.srm_deadlines.proofs.by_name.ByName+u64.set_all.Goals as goal

pub set-requires : goal.set-requires
set-requires c = place_of_turn c.args.moments.now c.loop-timed.timed-index c.timed-item.result _ _ c.loop-timed-test.true c.timed-item.is c.requires.places c.loop-timed.invariant.keeps_places

pub loop-timed-preserved : goal.loop-timed-preserved
loop-timed-preserved c =
    one_more c.args.moments.now c.loop-timed.timed-index c.timed-item.result _ _ _ c.requires.rising c.loop-timed-test.true c.timed-item.is c.loop-timed.invariant c.set.ensures.sets c.set.ensures.keeps_places c.set.ensures.only c.set.ensures.length
