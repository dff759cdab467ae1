use Rattle.std.proofs.Common.{◌≡◌, true, sym, subst, ap, arith, ◌∙◌}
use Rattle.std.proofs.lemmas.List.{take_all}
use Rattle.srm_names.specs.FullName.{FullName}
use Rattle.srm_names.specs.Names.{among}
use Rattle.srm_store.specs.Stores.{StoreContent, IsReady}
use Rattle.srm_store.specs.Fits.{StoreStays}
use Rattle.srm_store.specs.Finals.{FinalsContent}
use Rattle.srm_store.proofs.Fitting.{still_fits_on, still_with, without}
use Rattle.srm_store.proofs.Rooming.{ready_more, stays_on}
use Rattle.srm_store.proofs.store.Store.make_room.Goals as goal

pub returns-in_err-room_for-clause-kept : goal.returns-in_err-room_for-clause-kept
returns-in_err-room_for-clause-kept c = still_fits_on _ _ _ c.loop-name.invariant.kept c.in_err-room_for.ensures.kept

pub returns-in_err-room_for-clause-before : goal.returns-in_err-room_for-clause-before
returns-in_err-room_for-clause-before c = still_fits_on _ _ _ c.in_err-room_for.ensures.before c.loop-name.invariant.before

pub loop-name-preserved : goal.loop-name-preserved
loop-name-preserved c = record {
  kept = still_fits_on _ _ _ c.loop-name.invariant.kept c.in_ok-room_for.ensures.kept;
  before = still_fits_on _ _ _ c.in_ok-room_for.ensures.before c.loop-name.invariant.before;
  so_far = ready_more c.args.names.now c.loop-name.name-index c.name-item.result (record c.loop-name.self { rooms = c.loop-name.rooms }) _ c.name-item.is (omega arith) c.loop-name.invariant.so_far c.in_ok-room_for.ensures.ready c.in_ok-room_for.ensures.ok;
  pages = c.in_ok-room_for.ensures.pages ∙ c.loop-name.invariant.pages;
  earlier = stays_on _ _ _ c.loop-name.invariant.earlier c.in_ok-room_for.ensures.earlier;
  finals = omega (arith, c.loop-name.invariant.finals, ap (λ (f : FinalsContent). f.room) c.in_ok-room_for.ensures.settling);
  settling = omega (arith, c.loop-name.invariant.settling, ap (λ (f : FinalsContent). f.room) c.in_ok-room_for.ensures.settling);
}

pub returns-in_err-room_for-clause-pages : goal.returns-in_err-room_for-clause-pages
returns-in_err-room_for-clause-pages c = c.in_err-room_for.ensures.pages ∙ c.loop-name.invariant.pages

pub returns-clause-kept : goal.returns-clause-kept
returns-clause-kept c = still_with _ _ _ (subst (StoreStays c.args.self.now) (sym c.self-2.view_is) c.loop-name.invariant.kept)

pub returns-clause-before : goal.returns-clause-before
returns-clause-before c = without _ _ _ (subst (λ s. StoreStays s c.args.self.now) (sym c.self-2.view_is) c.loop-name.invariant.before)

pub returns-clause-ready : goal.returns-clause-ready
returns-clause-ready c =
    subst (λ (s : StoreContent). (n : FullName) → among c.args.names.now n ≡ true → IsReady n (record s { rooms = c.loop-name.rooms })) (sym c.self-2.view_is)
    (subst (λ names. (n : FullName) → among names n ≡ true → IsReady n (record c.loop-name.self { rooms = c.loop-name.rooms })) (take_all c.loop-name.name-index c.args.names.now c.loop-name-test.false) c.loop-name.invariant.so_far)
