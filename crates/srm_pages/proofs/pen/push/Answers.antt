use Rattle.std.proofs.Common.{rules}
use Rattle.srm_pages.proofs.InkSteps.{writes}
use Rattle.srm_pages.proofs.pen.push.Goals as goal

pub push_as-requires-clause-rule : goal.push_as-requires-clause-rule
push_as-requires-clause-rule g c = search (rules, writes)
