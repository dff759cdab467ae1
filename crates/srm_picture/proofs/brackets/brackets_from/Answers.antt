use Rattle.std.proofs.Common.{rules}
use Rattle.srm_picture.proofs.Ending.{bracket_more}
use Rattle.srm_picture.proofs.brackets.brackets_from.Goals as goal

pub loop-nth-preserved : goal.loop-nth-preserved
loop-nth-preserved c = search (rules, bracket_more c.args.entries.now c.args.from.now c.args.arms.now c.loop-nth.nth c.index-arms-nth.result c.loop-nth.brackets.items)
