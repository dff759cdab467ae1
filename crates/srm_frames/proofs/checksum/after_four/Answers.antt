use Rattle.srm_frames.proofs.Chunks.{without_zeros}
use Rattle.srm_frames.proofs.checksum.after_four.Goals as goal

pub returns : goal.returns
returns c = without_zeros _ _ c.after_four_and_zeros.ensures
