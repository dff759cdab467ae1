use Rattle.srm_frames.proofs.Chunks.{one_byte}
use Rattle.srm_frames.proofs.checksum.after_byte.Goals as goal

pub returns : goal.returns
returns c = one_byte c.args.register c.args.byte _ _ c.from.ensures c.remainder.ensures
