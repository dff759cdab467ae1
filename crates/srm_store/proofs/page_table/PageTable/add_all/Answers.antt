use Rattle.std.proofs.Common.{◌+◌, List, ap, ◌∙◌, map, drop}
use Rattle.srm_names.specs.declared.page.Page.{Page}
use Rattle.srm_names.specs.declared.stream.Stream.{Stream}
use Rattle.srm_store.specs.Held.{page_of_name}
use Rattle.srm_store.specs.PageTables.{with_pages}
use Rattle.srm_store.proofs.Seating.{one_seated, one_has_room, all_seated}
use Rattle.srm_store.proofs.page_table.PageTable.add_all.Goals as goal

pub add-requires : goal.add-requires
add-requires c = one_has_room c.loop-name.self c.args.self.now c.args.names.now c.loop-name.name-index c.name-item.result c.stream.result.page (ap (λ (s : Stream). s.page) c.stream.ensures) c.name-item.is c.loop-name-test.true
    c.loop-name.invariant.whole c.requires

pub loop-name-preserved : goal.loop-name-preserved
loop-name-preserved c = record {
  whole =
      ap (λ (ps : List Page). with_pages ps (map page_of_name (drop (c.loop-name.name-index + 1) c.args.names.now))) c.add.ensures
      ∙ one_seated c.loop-name.self c.args.names.now c.loop-name.name-index c.name-item.result c.stream.result.page (ap (λ (s : Stream). s.page) c.stream.ensures) c.name-item.is c.loop-name-test.true
      ∙ c.loop-name.invariant.whole;
}

pub returns : goal.returns
returns c = all_seated c.loop-name.self _ c.args.names.now c.loop-name.name-index c.loop-name-test.false c.loop-name.invariant.whole
