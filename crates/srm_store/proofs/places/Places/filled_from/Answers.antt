use Rattle.std.proofs.Common.{◌∙◌, ◌+◌, ap, sym, arith}
use Rattle.srm_names.specs.declared.limits.TheConstants.{DRAWOPS}
use Rattle.srm_names.proofs.Lists.{is_none}
use Rattle.srm_store.specs.Places.{place_at}
use Rattle.srm_store.proofs.Placing.{copied_some, filled_more}
use Rattle.srm_store.proofs.places.Places.filled_from.Goals as goal

pub returns-then-is_none-clause-filled : goal.returns-then-is_none-clause-filled
returns-then-is_none-clause-filled c = record {
  filled = c.loop-number.invariant;
  gap = is_none _ (copied_some _ _ c.get.ensures ∙ c.if-is_none.ensures);
}

pub loop-number-preserved : goal.loop-number-preserved
loop-number-preserved c = filled_more _ _ c.loop-number.invariant (copied_some _ _ c.get.ensures ∙ c.if-is_none.ensures)

pub returns-clause-filled : goal.returns-clause-filled
returns-clause-filled c = record {
  filled = λ n low high. c.loop-number.invariant n low (omega arith);
  gap = ap (λ bs. place_at bs (DRAWOPS + 1)) (sym c.self.view_is) ∙ c.self.invariant.past (DRAWOPS + 1) (omega arith);
}
