use Rattle.srm_record.proofs.Making.{one_clock_more}
use Rattle.srm_record.proofs.replaying.clock_after.Goals as goal

pub loop-entry-preserved : goal.loop-entry-preserved
loop-entry-preserved c =
    one_clock_more c.args.clock c.loop-entry.clock c.clock_behind-clock.result c.loop-entry.entry-index c.args.entries.now c.entry-item.result c.loop-entry-test.true c.entry-item.is c.loop-entry.invariant
    c.clock_behind-clock.ensures
