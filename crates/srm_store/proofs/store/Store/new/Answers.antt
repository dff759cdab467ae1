use Rattle.std.proofs.Common.{refl}
use Rattle.srm_store.proofs.Fitting.{fits_new}
use Rattle.srm_store.proofs.store.Store.new.Goals as goal

pub returns : goal.returns
returns c = fits_new _ _ _ refl refl c.in_ok-new.ensures c.in_ok-new-2.ensures
