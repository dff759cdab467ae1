use Rattle.std.proofs.Common.{refl}
use Rattle.srm_distance.proofs.Steps.{adds_at, forgot-other}
use Rattle.srm_distance.proofs.distances.Distances.forget.Goals as goal

pub returns : goal.returns
returns c = rw (c.keep.ensures.new, ← c.self.view_is)
    (adds_at _ _ c.args.member _ _ refl c.keep.ensures.below
    (λ calls fits. c.after_forget-peer.ensures.fits calls c.args.member (rw c.index.ensures.value fits))
    (forgot-other c.args.member))
