use Rattle.srm_frames.proofs.Chunks.{sixteen_at_once}
use Rattle.srm_frames.proofs.checksum.after_sixteen.Goals as goal

pub returns : goal.returns
returns c =
    sixteen_at_once c.args.register _ _ _ _ c.args.sixteen.now c.told-sixteen c.fits-sixteen c.after_four_and_zeros-last.ensures c.after_four_and_zeros-third.ensures c.after_four_and_zeros-second.ensures
    c.after_four_and_zeros-first.ensures
