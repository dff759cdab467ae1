use Rattle.std.proofs.Common.{take}
use Rattle.srm_entries.specs.Packing.{packed}
use Rattle.srm_outbox.proofs.Spelling.{RepairedSoFar}
use Rattle.srm_outbox.proofs.due_items.requests_and_repairs.Given as goal

abbrev pub invariant-loop-name : goal.invariant-loop-name
invariant-loop-name l = RepairedSoFar l.me l.store (packed l.me l.asks) (take l.name-index l.fixes) l.datagrams.items
