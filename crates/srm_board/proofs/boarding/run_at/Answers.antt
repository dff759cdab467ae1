use Rattle.srm_board.proofs.BoardRuns.{whole_by_status}
use Rattle.srm_board.proofs.boarding.run_at.Goals as goal

pub returns-in-Some-clause-whole : goal.returns-in-Some-clause-whole
returns-in-Some-clause-whole g c = λ status. whole_by_status c.in-Some.fault c.run.result _ _ c.in-Some.is c.print_fault.ensures.status c.run.ensures status
