use Rattle.std.proofs.Common.{refl, sym, subst, ap, arith, length, ◌∙◌, ◌≡◌, true}
use Rattle.srm_names.specs.declared.stream.Stream.{Stream}
use Rattle.srm_names.proofs.Results.{err_is}
use Rattle.srm_store.specs.Fits.{StoreFits}
use Rattle.srm_store.specs.Inside.{store_of}
use Rattle.srm_store.specs.Stores.{StoreContent, StaysReady, KeepsSlots}
use Rattle.srm_store.specs.Held.{lacks_room}
use Rattle.srm_store.proofs.Faults.{same_fault}
use Rattle.srm_store.specs.PageTables.{slot_of, with_pages}
use Rattle.srm_store.proofs.Fitting.{fits_learns}
use Rattle.srm_store.proofs.Rooming.{ready_learns}
use Rattle.srm_store.proofs.Seating.{full_lacks_room, lacks_room_full, slot_left, keeps_slots}
use Rattle.srm_store.proofs.store.Store.learn.Goals as goal

pub returns-in_err-slot_for-clause-limit : goal.returns-in_err-slot_for-clause-limit
returns-in_err-slot_for-clause-limit c = λ inserted evidence settled h.
    let fits = subst (StoreFits inserted evidence settled) (sym c.self.view_is) h in
    let full : lacks_room inserted evidence c.args.name.stream.page ≡ true = full_lacks_room fits c.in_err-slot_for.ensures.few c.args.name.stream.page (ap (λ (s : Stream). slot_of c.self.inside.table.pages s.page) (sym c.stream.ensures) ∙ c.in_err-slot_for.ensures.limit.0 refl) in
    (λ e. full, λ over. err_is c.from_residual.result _ c.from_residual.ensures.1 ∙ same_fault _ _ c.in_err-slot_for.ensures.full)

pub returns-clause-fits : goal.returns-clause-fits
returns-clause-fits c = λ inserted evidence settled h. fits_learns (store_of c.self.inside) _ (subst (StoreFits inserted evidence settled) (sym c.self.view_is) h) c.args.name c.learn.ensures.learns refl

pub returns-clause-limit : goal.returns-clause-limit
returns-clause-limit c = λ inserted evidence settled h.
    let fits = subst (StoreFits inserted evidence settled) (sym c.self.view_is) h in
    let page = ap (λ (s : Stream). slot_of c.self.inside.table.pages s.page) c.stream.ensures in
    (λ e. absurd (cc), λ over. absurd (omega (arith, lacks_room_full fits c.in_ok-slot_for.ensures.few c.args.name.stream.page over, page, c.in_ok-slot_for.ensures.value, c.in_ok-slot_for.ensures.below)))

pub returns-clause-ready : goal.returns-clause-ready
returns-clause-ready c =
    let after : StoreContent = record (store_of c.self.inside) { table = c.learn.new.self } in
    subst (λ (s : StoreContent). StaysReady s after) c.self.view_is (ready_learns (store_of c.self.inside) after c.args.name c.learn.ensures.learns c.learn.ensures.still (record { each = λ n count other had. had }))

pub returns-in_err-slot_for-clause-slot : goal.returns-in_err-slot_for-clause-slot
returns-in_err-slot_for-clause-slot c = λ pages there had e.
    let few = ap (λ (s : StoreContent). length (with_pages s.table.pages pages)) c.self.view_is in
    let full = ap (λ (s : Stream). slot_of c.self.inside.table.pages s.page) (sym c.stream.ensures) ∙ c.in_err-slot_for.ensures.limit.0 refl in
    absurd (omega (arith, full, slot_left c.self.inside.table.pages c.args.name.stream.page pages there (omega (arith, few, had.few))))

pub returns-clause-slots : goal.returns-clause-slots
returns-clause-slots c =
    let after : StoreContent = record (store_of c.self.inside) { table = c.learn.new.self } in
    subst (λ (s : StoreContent). KeepsSlots c.args.name.stream.page s after) c.self.view_is (keeps_slots (store_of c.self.inside) after c.args.name.stream.page c.learn.ensures.learns.pages)
