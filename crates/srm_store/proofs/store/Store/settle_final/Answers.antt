use Rattle.std.proofs.Common.{refl, sym, subst}
use Rattle.srm_store.specs.Fits.{StoreFits}
use Rattle.srm_store.specs.Inside.{store_of}
use Rattle.srm_store.proofs.Fitting.{fits_settled}
use Rattle.srm_store.proofs.store.Store.settle_final.Goals as goal

pub returns-clause-fits : goal.returns-clause-fits
returns-clause-fits c = λ inserted evidence settled h.
    fits_settled (store_of c.self.inside) _ (subst (StoreFits inserted evidence settled) (sym c.self.view_is) h) c.args.member c.args.rows.now refl c.in_ok-settle.ensures.ok
