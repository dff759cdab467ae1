use Rattle.srm_gaps.proofs.Sessioned.{calls_are}
use Rattle.srm_gaps.proofs.told.calls_told.Goals as goal

pub returns-in-Some-clause-calls : goal.returns-in-Some-clause-calls
returns-in-Some-clause-calls c = calls_are c.args.told.now c.args.member c.in-Some.one.now c.entries.result.now c.in-Some.ensures c.entries.ensures.lawful c.entries.ensures.value
