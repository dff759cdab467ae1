use Rattle.std.proofs.Common.{◌≡◌, true, false, refl}
use Rattle.srm_node.proofs.Shows.{shows_done, shows_refused, shows_not}
use Rattle.srm_node.proofs.showing.show.Goals as goal

pub returns-in-Ok-clause-shows : goal.returns-in-Ok-clause-shows
returns-in-Ok-clause-shows g c = shows_done c.args.now c.args.page.now _ _ c.in-Ok.ensures.records

pub returns-then-is_memory-clause-shows : goal.returns-then-is_memory-clause-shows
returns-then-is_memory-clause-shows g c = let e = c.if-is_memory.ensures in shows_not c.args.now c.args.page.now c.in-Err.fault _ _ c.in-Err.ensures.lawful (e.0 refl) c.in-Err.ensures.records

pub returns-else-is_memory-clause-shows : goal.returns-else-is_memory-clause-shows
returns-else-is_memory-clause-shows g c = let e = c.if-is_memory.ensures in shows_refused c.args.now c.args.page.now c.in-Err.fault _ _ _ (λ wrong. let f : false ≡ true = e.1 wrong in cc) c.refusal_of.ensures c.in-Err.ensures.records
