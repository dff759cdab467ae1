use Rattle.std.proofs.Common.{take}
use Rattle.srm_deadlines.proofs.Moments.{SetSoFar}
use Rattle.srm_deadlines.proofs.by_name.ByName+u64.set_all.Given as goal

abbrev pub invariant-loop-timed : goal.invariant-loop-timed
invariant-loop-timed l = SetSoFar (take l.timed-index l.moments) l.initial.self l.self
