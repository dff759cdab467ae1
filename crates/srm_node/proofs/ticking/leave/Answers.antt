use Rattle.std.proofs.Common.{refl}
use Rattle.srm_entries.specs.declared.entry.Entry.{Entry}
use Rattle.srm_node.proofs.Ticks.{leaves_cut}
use Rattle.srm_node.proofs.ticking.leave.Goals as goal

pub returns-then-is_memory-clause-leaves : goal.returns-then-is_memory-clause-leaves
returns-then-is_memory-clause-leaves g c = let e = c.if-is_memory.ensures in leaves_cut c.args.now (λ (x : Entry) (u : Unit {0}). Unit {0}) _ _ c.in-Err.fault c.in-Err.ensures.lawful (e.0 refl) c.in-Err.ensures.records
