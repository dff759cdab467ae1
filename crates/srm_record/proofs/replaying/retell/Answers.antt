use Rattle.srm_record.specs.Takes.{taken_in}
use Rattle.srm_record.proofs.Untold.{tells_of_runs}
use Rattle.srm_record.proofs.replaying.retell.Goals as goal

pub returns-in-Ok-None-clause-runs : goal.returns-in-Ok-None-clause-runs
returns-in-Ok-None-clause-runs c =
    let told = c.in_ok-replayed.ensures in
    tells_of_runs c.args.read.now c.in_ok-replayed.replayed.journal (taken_in c.in_ok-replayed.replayed.taken.items) told.start told.lawful told.words told.lists told.made
