use Rattle.srm_record.proofs.Ending.{one_take_more}
use Rattle.srm_record.proofs.record_file.RecordFile.put_slot.Goals as goal

pub loop-message-preserved : goal.loop-message-preserved
loop-message-preserved g c =
    one_take_more c.args.self.now c.loop-message.self c.put_take.new.self c.write_if_much.new.self c.args.slot c.loop-message.message-index c.args.messages.now c.message-item.result c.loop-message-test.true c.message-item.is
    c.loop-message.invariant c.put_take.ensures c.write_if_much.ensures
