use Rattle.std.proofs.Common.{subst, refl, ◌≡◌, arith}
use Rattle.srm_deadlines.specs.MomentLists.{IsLeastIn}
use Rattle.srm_deadlines.proofs.MomentLists.{none_yet, least_more}
use Rattle.srm_deadlines.proofs.moment_list.least_in.Goals as goal

pub loop-i-init : goal.loop-i-init
loop-i-init c = none_yet c.args.moments.now c.args.low

pub loop-i-preserved : goal.loop-i-preserved
loop-i-preserved c = least_more c.args.moments.now c.args.low c.loop-i.i c.loop-i.least _ _ (omega arith) refl c.lesser-least.ensures c.loop-i.invariant

pub returns : goal.returns
returns c = subst (λ i. IsLeastIn c.args.moments.now c.args.low i c.loop-i.least) (let e : c.loop-i.i ≡ c.args.high = omega arith in e) c.loop-i.invariant
