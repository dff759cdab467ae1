use Rattle.std.proofs.Common.{rules}
use Rattle.srm_picture.specs.Arrows.{launched_in}
use Rattle.srm_picture.proofs.ByEntry.{entry_more}
use Rattle.srm_picture.proofs.arrows.launches.Goals as goal

pub loop-index-preserved : goal.loop-index-preserved
loop-index-preserved c = search (rules, entry_more launched_in c.args.entries.now c.loop-index.index c.index-entries-index.result c.loop-index.launches.items)
