use Rattle.srm_ffi.proofs.giving.srm_raw_give.Goals as goal
use Rattle.std.proofs.Common.{rules}
use Rattle.srm_ffi.proofs.Bodies.{with_body}

pub returns-clause-gives : goal.returns-clause-gives
returns-clause-gives c slot long = with_body _ _ _ _ _ _ _ _ long (search rules)
