use Rattle.std.proofs.Common.{rules}
use Rattle.srm_picture.specs.Arrows.{arrows_of}
use Rattle.srm_picture.proofs.ByEntry.{entry_more}
use Rattle.srm_picture.proofs.arrows.arrows.Goals as goal

pub loop-number-preserved : goal.loop-number-preserved
loop-number-preserved c = search (rules, entry_more (arrows_of c.args.arrivals.now) c.args.launches.now c.loop-number.number c.index-launches-number.result c.loop-number.arrows.items)
