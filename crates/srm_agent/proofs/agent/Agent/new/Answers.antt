use Rattle.std.proofs.Common.{refl, subst, []}
use Rattle.srm_distance.specs.Fits.{DistancesFit}
use Rattle.srm_agent.proofs.Begins.{fits_begins, bucket_with}
use Rattle.srm_agent.proofs.agent.Agent.new.Goals as goal

pub returns-clause-fits : goal.returns-clause-fits
returns-clause-fits g c = fits_begins c.args.config c.args.now _ refl refl refl c.first.ensures c.in_ok-new.ensures c.in_ok-no_progress.ensures c.in_ok-new-2.ensures
    (subst (λ k. DistancesFit k c.args.config.me [] c.with_least.result) c.least_distance.ensures.value
    (subst (λ m. DistancesFit c.least_distance.result m [] c.with_least.result) c.me.ensures c.with_least.ensures.fits))
    c.new-3.ensures.fits (bucket_with c.rate.ensures.value c.depth.ensures.value c.new-4.ensures) refl
