use Rattle.srm_audited.proofs.SoFar.{one_more_of, stopped_at}
use Rattle.srm_audited.proofs.auditing.gather.Goals as goal

pub loop-place-preserved : goal.loop-place-preserved
loop-place-preserved c =
    one_more_of c.args.records.now c.loop-place.place c.index-records-place.result c.loop-place.gathered.told.items c.add.new.gathered.told.items c.loop-place.gathered.gots.items c.add.new.gathered.gots.items
    c.loop-place-test.true c.index-records-place.is c.loop-place.invariant c.in-Ok.ensures.adds

pub returns-in-Err-clause-stop : goal.returns-in-Err-clause-stop
returns-in-Err-clause-stop c =
    stopped_at c.args.records.now c.loop-place.place c.in-Err.fault c.index-records-place.result c.loop-place.gathered.told.items c.loop-place.gathered.gots.items
    c.loop-place-test.true c.index-records-place.is c.loop-place.invariant c.in-Err.ensures.fault
