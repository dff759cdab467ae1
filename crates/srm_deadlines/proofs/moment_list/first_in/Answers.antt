use Rattle.std.proofs.Common.{sym, ◌∙◌, ◌≤◌, arith}
use Rattle.srm_deadlines.proofs.MomentLists.{none_more, is_first, no_first}
use Rattle.srm_deadlines.proofs.moment_list.first_in.Goals as goal

pub loop-i-init : goal.loop-i-init
loop-i-init c = λ k le lt. absurd (omega arith)

pub loop-i-preserved : goal.loop-i-preserved
loop-i-preserved c = none_more c.args.now c.args.moments.now c.args.low c.loop-i.i c.loop-i.invariant (sym c.has_come.ensures ∙ c.if-has_come.false)

pub returns-then-has_come : goal.returns-then-has_come
returns-then-has_come c = is_first c.args.now c.args.moments.now c.args.low c.args.high c.loop-i.i (omega arith) c.loop-i-test.true c.loop-i.invariant (sym c.has_come.ensures ∙ c.if-has_come.true)

pub returns : goal.returns
returns c = no_first c.args.now c.args.moments.now c.args.low c.args.high (λ k le lt. c.loop-i.invariant k le (let e : c.args.high ≤ c.loop-i.i = omega arith in omega arith))
