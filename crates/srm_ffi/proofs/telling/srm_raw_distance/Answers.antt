use Rattle.std.proofs.Common.{rules}
use Rattle.srm_ffi.proofs.telling.srm_raw_distance.Goals as goal
use Rattle.srm_ffi.proofs.Distances.{told}

pub returns-clause-told : goal.returns-clause-told
returns-clause-told c below = told _ c.in-Some.member c.deref.result.now c.in-Some-take.seat.value _ _ _ _ c.in-Some-take.ensures.taken c.put.ensures c.deref.ensures c.in-Some.ensures.value (search rules)
