use Rattle.std.proofs.Common.{◌≤◌, ◌+◌, max}
use Rattle.srm_names.specs.Names.{AreExactly}
use Rattle.srm_names.specs.Between.{is_between}
use Rattle.srm_names.proofs.between.names_between.Given as goal

abbrev pub invariant-loop-number : goal.invariant-loop-number
invariant-loop-number l = record {
  so_far : AreExactly (is_between l.fn.stream l.above l.number) l.names.items;
  low : l.above + 1 ≤ l.number;
  high : l.number ≤ max (l.above + 1) l.below;
}
