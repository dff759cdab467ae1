use Rattle.std.proofs.Common.{rules}
use Rattle.srm_picture.proofs.Showing.{actions_more}
use Rattle.srm_picture.proofs.action.actions.Goals as goal

pub loop-index-preserved : goal.loop-index-preserved
loop-index-preserved c = search (rules, actions_more c.args.entries.now c.loop-index.index c.index-entries-index.result c.loop-index.actions.items)
