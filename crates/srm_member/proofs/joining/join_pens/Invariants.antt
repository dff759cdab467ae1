use Rattle.std.proofs.Common.{◌≡◌}
use Rattle.std.specs.List.{AllByRecursion}
use Rattle.std.specs.Vec.Iter.{into_iter_items}
use Rattle.srm_pages.specs.Ends.{PenView}
use Rattle.srm_member.specs.WholeRuns.{IsReceivedOf}
use Rattle.srm_member.proofs.joining.join_pens.Given as goal

abbrev pub invariant-loop-pen : goal.invariant-loop-pen
invariant-loop-pen g l = record {
  same : l.well ≡ l.initial.well;
  of : AllByRecursion (λ (p : PenView). p.well ≡ l.initial.well.well) (into_iter_items l.pen-iterator);
  parts : AllByRecursion (IsReceivedOf l.initial.well.received) (into_iter_items l.pen-iterator) → AllByRecursion (IsReceivedOf l.initial.well.received) l.fn.pens.items;
}
