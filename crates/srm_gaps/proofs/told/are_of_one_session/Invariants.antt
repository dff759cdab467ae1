use Rattle.std.proofs.Common.{length}
use Rattle.srm_gaps.proofs.Sessioned.{Decides}
use Rattle.srm_gaps.proofs.told.are_of_one_session.Given as goal

abbrev pub invariant-rest : goal.invariant-rest
invariant-rest l = Decides l.told l.rest

abbrev pub decreases-rest : goal.decreases-rest
decreases-rest l = length l.rest
