use Rattle.std.proofs.Common.{rules}
use Rattle.srm_picture.specs.Arrows.{launch}
use Rattle.srm_picture.proofs.ByEntry.{each_more}
use Rattle.srm_picture.proofs.arrows.launched.Goals as goal

pub loop-nth-preserved : goal.loop-nth-preserved
loop-nth-preserved c = search (rules, each_more (launch c.args.from.now) c.args.outs.now c.loop-nth.nth c.index-outs-nth.result c.loop-nth.launches.items)
