use Rattle.std.proofs.Common.{ap, arith, ◌∙◌}
use Rattle.srm_names.specs.FullName.{FullName}
use Rattle.srm_store.specs.Finals.{FinalsContent}
use Rattle.srm_store.specs.Tables.{HasPlaceFor}
use Rattle.srm_store.proofs.Fitting.{still_fits_on}
use Rattle.srm_store.proofs.Rooming.{each_more, stays_on}
use Rattle.srm_store.proofs.store.Store.make_places.Goals as goal

pub returns-in_err-make_place-clause-kept : goal.returns-in_err-make_place-clause-kept
returns-in_err-make_place-clause-kept c = still_fits_on _ _ _ c.loop-name.invariant.kept c.in_err-make_place.ensures.kept

pub returns-in_err-make_place-clause-before : goal.returns-in_err-make_place-clause-before
returns-in_err-make_place-clause-before c = still_fits_on _ _ _ c.in_err-make_place.ensures.before c.loop-name.invariant.before

pub loop-name-preserved : goal.loop-name-preserved
loop-name-preserved c = record {
  kept = still_fits_on _ _ _ c.loop-name.invariant.kept c.in_ok-make_place.ensures.kept;
  before = still_fits_on _ _ _ c.in_ok-make_place.ensures.before c.loop-name.invariant.before;
  so_far = each_more c.args.names.now c.loop-name.name-index c.name-item.result (λ (n : FullName). HasPlaceFor n c.loop-name.self.table) (λ (n : FullName). HasPlaceFor n c.make_place.new.self.table) c.name-item.is (omega arith) c.loop-name.invariant.so_far c.in_ok-make_place.ensures.still.each c.in_ok-make_place.ensures.ok;
  earlier = stays_on _ _ _ c.loop-name.invariant.earlier c.in_ok-make_place.ensures.earlier;
  finals = omega (arith, c.loop-name.invariant.finals, ap (λ (f : FinalsContent). f.room) c.in_ok-make_place.ensures.settling);
  pages = c.in_ok-make_place.ensures.pages ∙ c.loop-name.invariant.pages;
  settling = omega (arith, c.loop-name.invariant.settling, ap (λ (f : FinalsContent). f.room) c.in_ok-make_place.ensures.settling);
}
