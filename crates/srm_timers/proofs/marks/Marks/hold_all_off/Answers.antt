use Rattle.srm_timers.proofs.Marking.{holds_more, keeps_through, marks_through}
use Rattle.srm_timers.proofs.marks.Marks.hold_all_off.Goals as goal

pub loop-name-preserved : goal.loop-name-preserved
loop-name-preserved c = record {
  off = holds_more c.args.now c.args.dist.now c.args.names.now c.loop-name.name-index c.name-item.result c.args.self.now c.loop-name.self c.hold_for_asker.new.self c.loop-name-test.true c.name-item.is
      c.loop-name.invariant.askers c.loop-name.invariant.off c.hold_for_asker.ensures.off c.hold_for_asker.ensures.near;
  askers = keeps_through _ _ _ c.loop-name.invariant.askers c.hold_for_asker.ensures.askers;
  keeps_places = marks_through _ _ _ c.loop-name.invariant.keeps_places c.hold_for_asker.ensures.keeps_places;
}
