use Rattle.std.proofs.Common.{◌≡◌, ◌+◌, ◌≤◌, ◌++◌, map, take, drop, length}
use Rattle.srm_names.specs.declared.limits.TheConstants.{PAGES}
use Rattle.srm_store.specs.Held.{page_of_name}
use Rattle.srm_store.specs.PageTables.{with_pages, with_pages_of}
use Rattle.srm_store.proofs.page_table.PageTable.lacks_room_for.Given as goal

-- the pages so far, and those of the names that are left, are all
abbrev pub invariant-loop-name : goal.invariant-loop-name
invariant-loop-name l = record {
  whole : with_pages (l.pages ++ take l.count l.added) (map page_of_name (drop l.name-index l.names)) ≡ with_pages_of l.pages l.names;
  few : length l.pages + l.count ≤ PAGES;
  size : length l.added ≡ 8;
}
