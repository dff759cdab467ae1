use Rattle.std.proofs.Common.{sym, subst, ◌∙◌, ◌≡◌, true}
use Rattle.srm_names.specs.Names.{name_below}
use Rattle.srm_deadlines.proofs.Order.{before_more, drop_below}
use Rattle.srm_deadlines.proofs.scanned.place_in_order.Goals as goal

pub loop-i-preserved : goal.loop-i-preserved
loop-i-preserved c = before_more c.args.names.now c.loop-i.i c.index-names-i.result c.args.name c.loop-i-test.true c.index-names-i.is c.loop-i.invariant (sym c.eq.ensures ∙ c.if-eq.false) (sym c.is_before.ensures ∙ c.if-is_before.false)

pub returns-then-is_before-clause-after : goal.returns-then-is_before-clause-after
returns-then-is_before-clause-after c = drop_below c.args.name c.args.names.now c.loop-i.i c.index-names-i.result c.requires c.loop-i-test.true (subst (λ n. name_below c.args.name n ≡ true) c.index-names-i.is (sym c.is_before.ensures ∙ c.if-is_before.true))
