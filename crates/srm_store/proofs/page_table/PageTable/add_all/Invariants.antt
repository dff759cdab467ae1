use Rattle.std.proofs.Common.{◌≡◌, map, drop}
use Rattle.srm_store.specs.Held.{page_of_name}
use Rattle.srm_store.specs.PageTables.{with_pages, with_pages_of}
use Rattle.srm_store.proofs.page_table.PageTable.add_all.Given as goal

-- the pages so far, and those of the names that are left, are all
abbrev pub invariant-loop-name : goal.invariant-loop-name
invariant-loop-name l = record { whole : with_pages l.self (map page_of_name (drop l.name-index l.names)) ≡ with_pages_of l.fn.self l.names }
