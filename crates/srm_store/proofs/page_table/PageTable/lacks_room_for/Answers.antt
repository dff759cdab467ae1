use Rattle.std.proofs.Common.{List, sym, ap, ◌∙◌, arith}
use Rattle.std.proofs.lemmas.List.{length-set}
use Rattle.srm_names.specs.declared.page.Page.{Page}
use Rattle.srm_names.specs.declared.stream.Stream.{Stream}
use Rattle.srm_store.specs.PageTables.{table_lacks_room_for}
use Rattle.srm_store.proofs.Seating.{count_kept, count_more, count_full, counted_all}
use Rattle.srm_store.proofs.page_table.PageTable.lacks_room_for.Goals as goal

pub loop-name-preserved-then-holds : goal.loop-name-preserved-then-holds
loop-name-preserved-then-holds c = record {
  whole = count_kept c.as_slice-pages.result.now c.loop-name.added c.args.names.now c.loop-name.name-index c.loop-name.count c.name-item.result c.stream-page.result.page (ap (λ (s : Stream). s.page) c.stream-page.ensures) c.name-item.is c.loop-name-test.true
      c.loop-name.invariant.whole (rw (c.holds.ensures, c.holds-in-loop-name.ensures) at c.if-holds.true);
  few = c.loop-name.invariant.few;
  size = c.loop-name.invariant.size;
}

pub returns-then-pages-count : goal.returns-then-pages-count
returns-then-pages-count c = sym (
    ap (λ (ps : List Page). table_lacks_room_for ps c.args.names.now) (sym c.as_slice-pages.ensures.value)
    ∙ count_full c.as_slice-pages.result.now c.loop-name.added c.args.names.now c.loop-name.name-index c.loop-name.count c.name-item.result c.stream-page.result.page (ap (λ (s : Stream). s.page) c.stream-page.ensures) c.name-item.is c.loop-name-test.true
    c.loop-name.invariant.whole (rw (c.holds.ensures, c.holds-in-loop-name.ensures) at c.if-holds.false) (c.if-pages-count.true ∙ c.from.ensures) (omega (arith, c.loop-name.invariant.few, c.loop-name.invariant.size)))

pub loop-name-preserved : goal.loop-name-preserved
loop-name-preserved c = record {
  whole = count_more c.as_slice-pages.result.now c.loop-name.added c.args.names.now c.loop-name.name-index c.loop-name.count c.name-item.result c.stream-page.result.page (ap (λ (s : Stream). s.page) c.stream-page.ensures) c.name-item.is c.loop-name-test.true
      c.loop-name.invariant.whole (rw (c.holds.ensures, c.holds-in-loop-name.ensures) at c.if-holds.false) (omega (arith, c.loop-name.invariant.few, c.loop-name.invariant.size));
  few = omega (arith, c.loop-name.invariant.few, c.if-pages-count.false, c.from.ensures);
  size = length-set c.loop-name.added c.loop-name.count c.stream-page.result.page ∙ c.loop-name.invariant.size;
}

pub returns : goal.returns
returns c = sym (
    ap (λ (ps : List Page). table_lacks_room_for ps c.args.names.now) (sym c.as_slice-pages.ensures.value)
    ∙ counted_all c.as_slice-pages.result.now c.loop-name.added c.args.names.now c.loop-name.name-index c.loop-name.count c.loop-name-test.false c.loop-name.invariant.whole c.loop-name.invariant.few (omega (arith, c.loop-name.invariant.few, c.loop-name.invariant.size)))
