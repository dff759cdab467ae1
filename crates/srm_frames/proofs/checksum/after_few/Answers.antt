use Rattle.std.proofs.Common.{◌/◌, length}
use Rattle.srm_frames.proofs.Chunks.{in_chunks}
use Rattle.srm_frames.proofs.checksum.after_few.Goals as goal

pub returns : goal.returns
returns c = in_chunks 4 (length c.args.bytes.now / 4) c.args.before c.args.bytes.now _ _ _ _ c.as_chunks.ensures.front c.as_chunks.ensures.back c.after_fours.ensures c.after_bytes.ensures
