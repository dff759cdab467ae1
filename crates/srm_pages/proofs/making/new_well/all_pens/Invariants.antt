use Rattle.std.proofs.Common.{◌≡◌, [], true, vec_len}
use Rattle.std.specs.Arc.{arc_value}
use Rattle.crossbeam_queue.specs.Passes.{view as knows, IsPassOf}
use Rattle.srm_pages.specs.Ends.{AreNewPens}
use Rattle.srm_pages.proofs.making.new_well.all_pens.Given as goal

abbrev pub invariant-loop-number : goal.invariant-loop-number
invariant-loop-number l = record {
  queue : IsPassOf (arc_value l.ink).queue l.reader;
  reads : (knows l.reader).reads ≡ true;
  made : (knows l.reader).made ≡ l.number;
  received : (knows l.reader).received ≡ [];
  count : vec_len l.pens ≡ l.number;
  new : AreNewPens (arc_value l.ink).queue.table.shared.table_id l.pens.items;
}
