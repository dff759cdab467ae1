use Rattle.srm_wire.specs.Wires.{Sends, SendsEach, others, sends_to}
use Rattle.srm_wire.proofs.sending.send_to_others.Given as goal

abbrev pub invariant-loop-number : goal.invariant-loop-number
invariant-loop-number g l = record {
  sends : Sends l.failed (sends_to (others l.me l.number) l.bytes) (g.X.Wire.failure_count l.initial.wire) (g.X.Wire.failure_count l.wire) (g.X.Wire.told l.initial.wire) (g.X.Wire.told l.wire);
  each : SendsEach g.X.Wire.sends l.failed (sends_to (others l.me l.number) l.bytes) l.initial.wire l.wire;
}
