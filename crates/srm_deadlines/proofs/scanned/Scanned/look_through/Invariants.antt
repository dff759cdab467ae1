use Rattle.std.proofs.Common.{◌≤◌, take}
use Rattle.std.specs.Prelude.{vec_capacity}
use Rattle.srm_deadlines.proofs.Looking.{DueSoFar}
use Rattle.srm_deadlines.proofs.scanned.Scanned.look_through.Given as goal

abbrev pub invariant-loop-i : goal.invariant-loop-i
invariant-loop-i l = record {
  due : DueSoFar l.now (take l.i l.self-inside.moments) l.self-inside.moments l.names.items;
  capacity : vec_capacity l.initial.names ≤ vec_capacity l.names;
}
