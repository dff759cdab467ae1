use Rattle.std.proofs.Common.{ap, sym, arith, length, ◌∙◌}
use Rattle.srm_store.specs.PageTables.{slot_of}
use Rattle.srm_store.specs.Tables.{TableContent}
use Rattle.srm_store.specs.Inside.{table_of}
use Rattle.srm_store.proofs.Slots.{room_below}
use Rattle.srm_store.proofs.Tabling.{Wrote, in_size, in_blank, in_gains, in_still}
use Rattle.srm_store.proofs.table.Table.insert.Goals as goal

wrote : (c : goal.After-add) → Wrote (table_of c.self.inside) c.args.self.now c.stream-stream.result c.in_ok-slot.slot c.place.result c.index_mut.result.now c.insert.new.self
wrote c =
    let at = c.in_ok-slot.ensures.value ∙ ap (λ (t : TableContent). slot_of t.pages c.stream-stream.result.page) (sym c.self.view_is) in
    record {
      is = c.self.view_is;
      few = omega (arith, c.in_ok-slot.ensures.few, ap (λ (t : TableContent). length t.pages) c.self.view_is);
      size = c.self.invariant.size;
      blank = c.self.invariant.blank;
      known = c.place.ensures.source;
      at = at;
      below = c.in_ok-slot.ensures.below;
      place = c.place.ensures.value;
      found = c.index_mut.ensures.value;
    }

pub add-requires : goal.add-requires
add-requires c = room_below c.self.inside.pages c.stream-stream.result.page
    (omega (arith, c.in_ok-slot.ensures.value, c.in_ok-slot.ensures.below, ap (λ (t : TableContent). slot_of t.pages c.stream-stream.result.page) c.self.view_is))
    (omega (arith, c.in_ok-slot.ensures.few, ap (λ (t : TableContent). length t.pages) c.self.view_is))

pub invariant_of-self-2 : goal.invariant_of-self-2
invariant_of-self-2 c = record {
  size = in_size (wrote c);
  blank = in_blank (wrote c) _ c.add.ensures;
}

pub returns-clause-ok : goal.returns-clause-ok
returns-clause-ok c = in_gains (wrote c) _ c.add.ensures c.args.drawop c.stream-stream.ensures c.in_ok-answer.ensures.ok

pub returns-clause-still : goal.returns-clause-still
returns-clause-still c = in_still (wrote c) _ c.add.ensures c.insert.ensures.still
