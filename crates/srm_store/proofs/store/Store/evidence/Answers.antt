use Rattle.std.proofs.Common.{refl, sym, subst, ap, arith, length, ◌∙◌, ◌≡◌, true, rules}
use Rattle.srm_names.specs.declared.stream.Stream.{Stream}
use Rattle.srm_names.proofs.Results.{err_is}
use Rattle.srm_store.specs.Fits.{StoreFits}
use Rattle.srm_store.specs.Inside.{store_of}
use Rattle.srm_store.specs.Stores.{StoreContent, StaysReady, KeepsSlots}
use Rattle.srm_store.specs.Held.{lacks_room}
use Rattle.srm_store.specs.declared.fault.StoreFault.TheVariants.{Memory}
use Rattle.srm_store.proofs.Faults.{same_fault, no_page_limit}
use Rattle.srm_store.specs.PageTables.{slot_of, with_pages}
use Rattle.srm_store.proofs.Fitting.{fits_learns}
use Rattle.srm_store.proofs.Reading.{newly_is}
use Rattle.srm_store.proofs.Rooming.{ready_learns}
use Rattle.srm_store.proofs.Seating.{full_lacks_room, lacks_room_full, slot_left, keeps_slots}
use Rattle.srm_store.proofs.store.Store.evidence.Goals as goal

pub returns-in_err-slot_for-clause-limit : goal.returns-in_err-slot_for-clause-limit
returns-in_err-slot_for-clause-limit c = λ inserted evidence settled h.
    let fits = subst (StoreFits inserted evidence settled) (sym c.self.view_is) h in
    let full : lacks_room inserted evidence c.args.name.stream.page ≡ true = full_lacks_room fits c.in_err-slot_for.ensures.few c.args.name.stream.page (ap (λ (s : Stream). slot_of c.self.inside.table.pages s.page) (sym c.stream-stream.ensures) ∙ c.in_err-slot_for.ensures.limit.0 refl) in
    (λ e. full, λ over. err_is c.from_residual.result _ c.from_residual.ensures.1 ∙ same_fault _ _ c.in_err-slot_for.ensures.full)

pub returns-in_err-reserve-clause-limit : goal.returns-in_err-reserve-clause-limit
returns-in_err-reserve-clause-limit c = λ inserted evidence settled h.
    let fits = subst (StoreFits inserted evidence settled) (sym c.self.view_is) h in
    let page = ap (λ (s : Stream). slot_of c.self.inside.table.pages s.page) c.stream-stream.ensures in (
      λ e. absurd (no_page_limit c.from_residual-in_err-reserve.result (err_is c.from_residual-in_err-reserve.result Memory c.from_residual-in_err-reserve.ensures.1) e),
      λ over. absurd (omega (arith, lacks_room_full fits c.in_ok-slot_for.ensures.few c.args.name.stream.page over, page, c.in_ok-slot_for.ensures.value, c.in_ok-slot_for.ensures.below)),
    )

pub returns-clause-fits : goal.returns-clause-fits
returns-clause-fits c = λ inserted evidence settled h. fits_learns (store_of c.self.inside) _ (subst (StoreFits inserted evidence settled) (sym c.self.view_is) h) c.args.name c.learn.ensures.learns refl

pub returns-clause-limit : goal.returns-clause-limit
returns-clause-limit c = λ inserted evidence settled h.
    let fits = subst (StoreFits inserted evidence settled) (sym c.self.view_is) h in
    let page = ap (λ (s : Stream). slot_of c.self.inside.table.pages s.page) c.stream-stream.ensures in
    (λ e. absurd (cc), λ over. absurd (omega (arith, lacks_room_full fits c.in_ok-slot_for.ensures.few c.args.name.stream.page over, page, c.in_ok-slot_for.ensures.value, c.in_ok-slot_for.ensures.below)))

pub returns-clause-ready : goal.returns-clause-ready
returns-clause-ready c =
    let after : StoreContent = record { table = c.learn.new.self; rooms = c.take-list.new.self; finals = c.self.inside.finals } in
    subst (λ (s : StoreContent). StaysReady s after) c.self.view_is (ready_learns (store_of c.self.inside) after c.args.name c.learn.ensures.learns c.learn.ensures.still c.take-list.ensures.others)

pub returns-in_err-slot_for-clause-slot : goal.returns-in_err-slot_for-clause-slot
returns-in_err-slot_for-clause-slot c = λ pages there had e.
    let few = ap (λ (s : StoreContent). length (with_pages s.table.pages pages)) c.self.view_is in
    let full = ap (λ (s : Stream). slot_of c.self.inside.table.pages s.page) (sym c.stream-stream.ensures) ∙ c.in_err-slot_for.ensures.limit.0 refl in
    absurd (omega (arith, full, slot_left c.self.inside.table.pages c.args.name.stream.page pages there (omega (arith, few, had.few))))

pub returns-clause-slots : goal.returns-clause-slots
returns-clause-slots c =
    let after : StoreContent = record { table = c.learn.new.self; rooms = c.take-list.new.self; finals = c.self.inside.finals } in
    subst (λ (s : StoreContent). KeepsSlots c.args.name.stream.page s after) c.self.view_is (keeps_slots (store_of c.self.inside) after c.args.name.stream.page c.learn.ensures.learns.pages)

pub returns-clause-answer : goal.returns-clause-answer
returns-clause-answer c = λ inserted evidence settled h.
    newly_is _ c.args.name _ c.self.inside.table _ _ h (ap (λ (s : StoreContent). s.table) c.self.view_is) c.stream-stream.ensures c.places_of_stream.ensures.source c.in_ok-names.ensures.ok (search rules) (search rules)
