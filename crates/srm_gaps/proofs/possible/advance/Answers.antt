use Rattle.std.proofs.Common.{rules}
use Rattle.srm_gaps.proofs.Following.{advances}
use Rattle.srm_gaps.proofs.possible.advance.Goals as goal

pub returns : goal.returns
returns c =
    advances c.args.told.now c.args.order.now c.enter.new.self c.args.member c.in-Some.entry.now c.in_ok-may_follow.field-0 c.requires c.in-Some.ensures.value c.in-Some.ensures.call c.in_ok-may_follow.ensures (search rules) c.in_ok-enter.ensures
