use Rattle.srm_frames.proofs.Tables.{remainder_at}
use Rattle.srm_frames.proofs.checksum.remainder.Goals as goal

pub returns : goal.returns
returns c = remainder_at c.args.zeros c.args.low _ c.requires.few c.requires.byte
