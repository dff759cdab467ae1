use Rattle.std.proofs.Common.{take}
use Rattle.srm_deadlines.proofs.Looking.{LeastSoFar}
use Rattle.srm_deadlines.proofs.scanned.ScannedDeadlines.next.Given as goal

abbrev pub invariant-loop-i : goal.invariant-loop-i
invariant-loop-i l = LeastSoFar (take l.i l.self-inside.moments) l.self-inside.moments l.least
