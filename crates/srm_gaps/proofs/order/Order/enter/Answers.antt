use Rattle.srm_gaps.proofs.Following.{enters_more}
use Rattle.srm_gaps.proofs.order.Order.enter.Goals as goal

pub returns : goal.returns
returns c = enters_more c.args.entry.now c.args.self.now c.learn_all.new.self c.count_one.new.self c.as_slice.result.now c.as_slice.ensures c.in_ok-learn_all.ensures.learns c.in_ok-learn_all.ensures.counts c.in_ok-count_one.ensures.room c.in_ok-count_one.ensures.value
