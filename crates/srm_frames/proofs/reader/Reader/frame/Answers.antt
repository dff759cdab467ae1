use Rattle.srm_frames.proofs.FrameLaws.{fields_within}
use Rattle.srm_frames.proofs.reader.Reader.frame.Goals as goal

pub split_at-requires : goal.split_at-requires
split_at-requires c =
    rw c.self.view_is
    (fields_within c.args.self.now c.in_ok-kind.kind c.in_ok-moment.moment c.in_ok-size.field-0 c.u8.new.self c.u64.new.self c.u32.new.self c.in_ok-payload.payload.now c.bytes.new.self
    c.in_ok-kind.ensures c.in_ok-moment.ensures c.in_ok-size.ensures c.in_ok-payload.ensures)
