use Rattle.std.proofs.Common.{take}
use Rattle.std.specs.Prelude.{map}
use Rattle.srm_outbox.specs.declared.out.Out.{Out}
use Rattle.srm_wire.specs.Wires.{Sends, SendsEach, dispatched}
use Rattle.srm_node.proofs.sending.send_all.Given as goal

abbrev pub invariant-loop-out : goal.invariant-loop-out
invariant-loop-out g l = record {
  sends : Sends l.failed (dispatched l.me l.members (map (λ (o : Out). o.bytes) (take l.out-index l.outs))) (g.X.Wire.failure_count l.initial.wire) (g.X.Wire.failure_count l.wire) (g.X.Wire.told l.initial.wire) (g.X.Wire.told l.wire);
  each : SendsEach g.X.Wire.sends l.failed (dispatched l.me l.members (map (λ (o : Out). o.bytes) (take l.out-index l.outs))) l.initial.wire l.wire;
}
