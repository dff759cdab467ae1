use Rattle.std.proofs.Common.{◌≤◌, ◌≡◌, length}
use Rattle.srm_wire.specs.Wires.{counted_with}
use Rattle.srm_guard.proofs.Guarding.{HasDropped}
use Rattle.srm_guard.proofs.guard.GuardWire.receive.Given as goal

abbrev pub invariant-loop : goal.invariant-loop
invariant-loop g l = record {
  drops : HasDropped g.X.Wire.receives (length l.initial.buffer) l.counter l.initial.self l.self;
  counts : counted_with (g.X.Wire.failure_count l.initial.self.wire) l.initial.self.own ≤ counted_with (g.X.Wire.failure_count l.self.wire) l.self.own;
  room : length l.buffer ≡ length l.initial.buffer;
}
