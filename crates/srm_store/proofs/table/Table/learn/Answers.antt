use Rattle.std.proofs.Common.{ℕ, max, ap, sym, arith, length, ◌∙◌}
use Rattle.srm_names.specs.declared.stream.Stream.{Stream}
use Rattle.srm_store.specs.StreamPlaces.{StreamContent}
use Rattle.srm_store.specs.PageTables.{slot_of}
use Rattle.srm_store.specs.Tables.{TableContent}
use Rattle.srm_store.specs.Inside.{table_of}
use Rattle.srm_store.proofs.Slots.{room_below}
use Rattle.srm_store.proofs.Tabling.{Wrote, in_size, in_blank, in_learns, in_still, knows_still}
use Rattle.srm_store.proofs.table.Table.learn.Goals as goal

wrote : (c : goal.After-add) → Wrote (table_of c.self.inside) c.args.self.now c.stream-stream.result c.slot-slot.result c.place.result c.index_mut.result.now c.know.new.self
wrote c =
    let at = c.slot-slot.ensures.value ∙ ap (λ (t : TableContent). slot_of t.pages c.stream-stream.result.page) (sym c.self.view_is) in
    record {
      is = c.self.view_is;
      few = omega (arith, c.slot-slot.ensures.few, ap (λ (t : TableContent). length t.pages) c.self.view_is);
      size = c.self.invariant.size;
      blank = c.self.invariant.blank;
      known = c.place.ensures.source;
      at = at;
      below = omega (arith, c.slot-slot.ensures.value, ap (λ (s : Stream). slot_of c.args.self.now.pages s.page) c.stream-stream.ensures, c.requires);
      place = c.place.ensures.value;
      found = c.index_mut.ensures.value;
    }

pub add-requires : goal.add-requires
add-requires c = room_below c.self.inside.pages c.stream-stream.result.page
    (omega (arith, ap (λ (s : Stream). slot_of c.args.self.now.pages s.page) c.stream-stream.ensures, c.requires, ap (λ (t : TableContent). slot_of t.pages c.stream-stream.result.page) c.self.view_is))
    (omega (arith, c.slot-slot.ensures.few, ap (λ (t : TableContent). length t.pages) c.self.view_is))

pub invariant_of-self : goal.invariant_of-self
invariant_of-self c = record {
  size = in_size (wrote c);
  blank = in_blank (wrote c) _ c.add.ensures;
}

pub returns-clause-learns : goal.returns-clause-learns
returns-clause-learns c = in_learns (wrote c) _ c.add.ensures c.args.name c.stream-stream.ensures
    (c.know.ensures ∙ ap (λ (n : ℕ). let content : StreamContent = record c.index_mut.result.now { known = max c.index_mut.result.now.known n } in content) c.number.ensures.value)

pub returns-clause-still : goal.returns-clause-still
returns-clause-still c = in_still (wrote c) _ c.add.ensures (knows_still c.index_mut.result.now c.know.new.self _ c.know.ensures)
