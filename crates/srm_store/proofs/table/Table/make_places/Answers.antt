use Rattle.std.proofs.Common.{◌≡◌, length, ap, sym, arith, ◌∙◌}
use Rattle.srm_store.specs.Tables.{slots_end, TableContent}
use Rattle.srm_store.specs.Inside.{table_of}
use Rattle.srm_store.proofs.Slots.{slots_end-there, slots_end-absent}
use Rattle.srm_store.proofs.Tabling.{places_made}
use Rattle.srm_store.proofs.table.Table.make_places.Goals as goal
use Rattle.srm_store.proofs.table.Table.make_places.Goals.{then-first-as_slice, else-first-as_slice}

ends : (c : goal.After-loop-slot) → slots_end c.args.self.now.pages c.stream-stream.result.page ≡ c.if-first-as_slice.end
ends c =
    let pages = ap (λ (t : TableContent). t.pages) c.self.view_is in
    elim c.if-first-as_slice.branch [
      | then-first-as_slice w ↦ slots_end-there c.args.self.now.pages c.stream-stream.result.page (omega (arith, w.if-first-as_slice.true, c.slot-first.ensures.value, ap length c.as_slice.ensures.value, ap length pages)) ∙ omega (arith, w.end-is, c.slot-first.ensures.value)
      | else-first-as_slice w ↦ slots_end-absent c.args.self.now.pages c.stream-stream.result.page (omega (arith, w.if-first-as_slice.false, c.slot-first.ensures.value, ap length c.as_slice.ensures.value, ap length pages)) ∙ sym w.end-is
    ]

pub returns-clause-ok : goal.returns-clause-ok
returns-clause-ok c =
    places_made (table_of c.loop-slot.self-inside) c.args.self.now c.args.name c.stream-stream.result c.slot-first.result c.if-first-as_slice.end c.index-source.result c.number-number.result
    c.loop-slot.invariant.same.pages c.stream-stream.ensures c.slot-first.ensures.value c.index-source.ensures.value c.number-number.ensures.value (ends c)
    (λ slot low high. c.loop-slot.invariant.so_far slot low (omega (arith, high, c.loop-slot-test.false)))
