use Rattle.srm_deadlines.proofs.Moments.{more_sets, place_of_turn}
use Rattle.srm_deadlines.proofs.Tables.{holds_on, given_on}
use Rattle.srm_deadlines.proofs.ordered.Ordered.set_few.Goals as goal

pub set-requires : goal.set-requires
set-requires c = place_of_turn c.args.moments.now c.loop-timed.timed-index c.timed-item.result _ _ c.loop-timed-test.true c.timed-item.is c.requires.places c.loop-timed.invariant.keeps_places

pub loop-timed-preserved : goal.loop-timed-preserved
loop-timed-preserved c = record {
  sets = more_sets c.args.moments.now c.loop-timed.timed-index c.timed-item.result _ _ _ c.requires.rising c.loop-timed-test.true c.timed-item.is c.loop-timed.invariant.sets c.set.ensures.sets;
  keeps_places = holds_on _ _ _ c.loop-timed.invariant.keeps_places c.set.ensures.keeps_places;
  only = given_on _ _ _ c.loop-timed.invariant.only c.set.ensures.only;
}
