use Rattle.srm_wire.proofs.Telling.{sends_to_more}
use Rattle.srm_wire.proofs.Dispatching.{each_to_more}
use Rattle.srm_wire.proofs.sending.send_to_others.Goals as goal

pub loop-number-preserved : goal.loop-number-preserved
loop-number-preserved g c = record {
  sends = sends_to_more c.loop-number.failed c.send_to_other-lost.result c.args.me c.loop-number.number c.args.bytes.now _ _ _ _ _ _ c.loop-number.invariant.sends c.send_to_other-lost.ensures.sends;
  each = each_to_more g.X.Wire.sends c.loop-number.failed c.send_to_other-lost.result c.args.me c.loop-number.number c.args.bytes.now _ _ _ c.loop-number.invariant.each c.send_to_other-lost.ensures.each;
}
