use Rattle.srm_node.proofs.Dispatching.{sends_all_more, each_all_more}
use Rattle.srm_node.proofs.sending.send_all.Goals as goal

pub loop-out-preserved : goal.loop-out-preserved
loop-out-preserved g c = record {
  sends = sends_all_more c.loop-out.failed c.send_to_others-lost.result c.args.me c.args.members c.loop-out.out-index c.args.outs.now c.out-item.result _ _ _ _ _ _ _ c.loop-out-test.true c.out-item.is c.as_slice.ensures c.loop-out.invariant.sends c.send_to_others-lost.ensures.sends;
  each = each_all_more g.X.Wire.sends c.loop-out.failed c.send_to_others-lost.result c.args.me c.args.members c.loop-out.out-index c.args.outs.now c.out-item.result _ _ _ _ c.loop-out-test.true c.out-item.is c.as_slice.ensures c.loop-out.invariant.each c.send_to_others-lost.ensures.each;
}
