use Rattle.std.proofs.Common.{rules}
use Rattle.srm_pages.proofs.InkSteps.{reads, learns_part}
use Rattle.srm_pages.proofs.ends.well.is_empty.Goals as goal

pub pop_as-requires-clause-rule : goal.pop_as-requires-clause-rule
pop_as-requires-clause-rule g c = search (rules, reads, learns_part)
