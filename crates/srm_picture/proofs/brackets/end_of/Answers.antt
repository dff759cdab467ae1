use Rattle.std.proofs.Common.{rules}
use Rattle.srm_picture.proofs.Ending.{none_at, found_at, none_of_all}
use Rattle.srm_picture.specs.Brackets.{timer}
use Rattle.srm_picture.proofs.brackets.end_of.Goals as goal

pub loop-index-preserved : goal.loop-index-preserved
loop-index-preserved c = none_at c.args.entries.now (timer c.args.from.now c.args.arm.now) _ _ _ c.loop-index-test.true c.index-entries-index.is c.loop-index.invariant c.ending_in.ensures c.in_default.is

pub returns-in-Some : goal.returns-in-Some
returns-in-Some c = search (rules, found_at c.args.entries.now (timer c.args.from.now c.args.arm.now) c.loop-index.index c.index-entries-index.result)

pub returns : goal.returns
returns c = search (rules, none_of_all c.args.entries.now (timer c.args.from.now c.args.arm.now) c.loop-index.index)
