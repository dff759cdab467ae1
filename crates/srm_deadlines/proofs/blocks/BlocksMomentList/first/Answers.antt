use Rattle.std.proofs.Common.{rules, sym, ◌∙◌, ◌<◌, ◌*◌, length}
use Rattle.srm_deadlines.proofs.MomentLists.{found_here, found_nowhere, found_later, first_within}
use Rattle.srm_deadlines.proofs.blocks.BlocksMomentList.first.Goals as goal

pub returns-then-is_some : goal.returns-then-is_some
returns-then-is_some g c = found_here c.args.now _ c.deref.result.now _ c.args.from c.end_of.result _ _ c.deref.ensures.value c.self.view_is (search rules) c.end_of.ensures.within (sym c.is_some.ensures ∙ c.if-is_some.true) c.first_in-found.ensures

pub returns-in_err-low : goal.returns-in_err-low
returns-in_err-low g c = found_nowhere c.args.now _ _ c.deref.result.now _ c.args.from c.end_of.result _ _ _ _ c.self.invariant c.deref.ensures.value c.self.view_is (search rules) c.end_of.ensures.whole (sym c.is_some.ensures ∙ c.if-is_some.false) c.first_in-found.ensures
    c.in_err-low.was c.first.ensures c.from_residual.ensures

pub overflow_mul-low : goal.overflow_mul-low
overflow_mul-low g c = let k : c.in_ok-low.field-0 * 16 < length c.self.inside.moments.items = first_within c.args.now _ _ _ _ c.in_ok-low.field-0 _ c.self.invariant c.in_ok-low.was c.first.ensures in search rules

pub end_of-requires-2 : goal.end_of-requires-2
end_of-requires-2 g c = let k : c.in_ok-low.field-0 * 16 < length c.self.inside.moments.items = first_within c.args.now _ _ _ _ c.in_ok-low.field-0 _ c.self.invariant c.in_ok-low.was c.first.ensures in search rules

pub returns : goal.returns
returns g c = found_later c.args.now _ _ c.deref.result.now c.deref-2.result.now _ c.args.from c.end_of.result c.in_ok-low.field-0 c.end_of-2.result _ _ _ _ c.self.invariant c.deref.ensures.value c.deref-2.ensures.value c.self.view_is (search rules)
    c.end_of.ensures.whole (sym c.is_some.ensures ∙ c.if-is_some.false) c.first_in-found.ensures c.in_ok-low.was c.first.ensures c.end_of-2.ensures.whole c.first_in.ensures
