use Rattle.std.proofs.Common.{refl}
use Rattle.srm_distance.proofs.Steps.{adds_at, heard-other}
use Rattle.srm_distance.proofs.distances.Distances.heard_session.Goals as goal

pub returns : goal.returns
returns c = rw (c.keep.ensures.new, ← c.self.view_is)
    (adds_at _ _ c.args.from _ _ refl c.keep.ensures.below
    (λ calls fits. c.after_session-peer.ensures.fits calls c.args.from (rw c.index.ensures.value fits))
    (heard-other c.args.from c.args.sent c.args.echo c.args.now))
