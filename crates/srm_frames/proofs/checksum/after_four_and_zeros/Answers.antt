use Rattle.srm_frames.proofs.Chunks.{four_at_once}
use Rattle.srm_frames.proofs.checksum.after_four_and_zeros.Goals as goal

pub returns : goal.returns
returns c =
    four_at_once c.args.zeros c.args.register c.args.four.now _ _ _ _ _ _ _ _ c.told-four c.ranges.register.fits c.fits-four c.from.ensures c.from-2.ensures c.from-3.ensures c.from-4.ensures c.remainder-first.ensures
    c.remainder-second.ensures c.remainder-third.ensures c.remainder-last.ensures
