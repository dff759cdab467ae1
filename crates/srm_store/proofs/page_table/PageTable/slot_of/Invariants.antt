use Rattle.std.proofs.Common.{◌≡◌, ◌+◌, drop}
use Rattle.srm_store.specs.PageTables.{slot_of}
use Rattle.srm_store.proofs.page_table.PageTable.slot_of.Given as goal

-- what is left has the slot
abbrev pub invariant-loop-slot : goal.invariant-loop-slot
invariant-loop-slot l = slot_of (drop l.slot l.self) l.page + l.slot ≡ slot_of l.self l.page
