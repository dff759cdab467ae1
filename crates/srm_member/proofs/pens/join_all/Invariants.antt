use Rattle.std.proofs.Common.{◌≡◌, ◌+◌, ◌≤◌, map, length}
use Rattle.std.specs.Prelude.{vec_len, vec_capacity}
use Rattle.srm_member.specs.Strokes.{pen_and_bodies, JoinsPens}
use Rattle.srm_member.proofs.pens.join_all.Given as goal

abbrev pub invariant-loop : goal.invariant-loop
invariant-loop g l = record {
  joins : JoinsPens l.all (map pen_and_bodies l.initial.left.items) l.left.items l.inked.items;
  count : length l.left.items + l.counter ≡ l.end;
  room : vec_len l.inked + length l.left.items ≤ vec_capacity l.inked;
}
