use Rattle.std.proofs.Common.{refl, sym, subst, ap, arith, length, Result, Ok, Err, OnOk, OnErr}
use Rattle.std.proofs.lemmas.Result.{on_ok_weaker, on_err_weaker}
use Rattle.srm_store.specs.Fits.{StoreFits}
use Rattle.srm_store.specs.Inside.{store_of}
use Rattle.srm_store.proofs.Fitting.{fits_gains, fits_same, same_finals}
use Rattle.srm_store.specs.declared.fault.StoreFault.{StoreFault}
use Rattle.srm_store.specs.declared.insert.Insert.{Insert}
use Rattle.srm_store.specs.PageTables.{with_pages}
use Rattle.srm_store.specs.Tables.{TableGains, SameTable}
use Rattle.srm_store.specs.Stores.{StoreContent, KeepsSlots}
use Rattle.srm_store.proofs.Seating.{full_lacks_room, lacks_room_full, slot_left, keeps_slots, keeps_slots_same}
use Rattle.srm_store.proofs.store.Store.insert.Goals as goal

pub returns-clause-fits : goal.returns-clause-fits
returns-clause-fits c = on_ok_weaker c.insert.result
    (λ gains. λ inserted evidence settled h. fits_gains (store_of c.self.inside) _ (subst (StoreFits inserted evidence settled) (sym c.self.view_is) h) c.args.drawop gains refl)
    c.insert.ensures.ok

pub returns-clause-err : goal.returns-clause-err
returns-clause-err c = on_err_weaker c.insert.result
    (λ same. record { each = λ inserted evidence settled h. fits_same (store_of c.self.inside) _ (subst (StoreFits inserted evidence settled) (sym c.self.view_is) h) same (same_finals c.self.inside.finals) })
    c.insert.ensures.err

pub returns-clause-limit : goal.returns-clause-limit
returns-clause-limit c = λ inserted evidence settled h.
    let fits = subst (StoreFits inserted evidence settled) (sym c.self.view_is) h in (
      λ e. full_lacks_room fits c.insert.ensures.few c.args.drawop.name.stream.page (c.insert.ensures.limit.0 e),
      λ over. c.insert.ensures.limit.1 (lacks_room_full fits c.insert.ensures.few c.args.drawop.name.stream.page over),
    )

pub returns-clause-slot : goal.returns-clause-slot
returns-clause-slot c = λ pages there had e.
    let few = ap (λ (s : StoreContent). length (with_pages s.table.pages pages)) c.self.view_is in
    absurd (omega (arith, c.insert.ensures.limit.0 e, few, slot_left c.self.inside.table.pages c.args.drawop.name.stream.page pages there (omega (arith, few, had.few))))

pub returns-clause-slots : goal.returns-clause-slots
returns-clause-slots c =
    let after : StoreContent = record (store_of c.self.inside) { table = c.insert.new.self } in
    subst (λ (s : StoreContent). KeepsSlots c.args.drawop.name.stream.page s after) c.self.view_is (go c.insert.result c.insert.ensures.ok c.insert.ensures.err)
  where
    go : (r : Result Insert StoreFault) → OnOk r (TableGains c.args.drawop c.self.inside.table c.insert.new.self) → OnErr r (SameTable c.self.inside.table c.insert.new.self) → KeepsSlots c.args.drawop.name.stream.page (store_of c.self.inside) (record (store_of c.self.inside) { table = c.insert.new.self })
    go (Ok answer) gains same = keeps_slots _ _ _ gains.pages
    go (Err fault) gains same = keeps_slots_same _ _ _ same.pages
