use Rattle.std.proofs.Common.{rules}
use Rattle.srm_picture.proofs.Ending.{entry_brackets}
use Rattle.srm_picture.proofs.brackets.brackets.Goals as goal

pub loop-index-preserved : goal.loop-index-preserved
loop-index-preserved c = search (rules, entry_brackets c.args.entries.now c.loop-index.index c.index-entries-index.result c.loop-index.brackets.items)
