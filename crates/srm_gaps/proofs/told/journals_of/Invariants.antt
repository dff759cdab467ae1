use Rattle.std.proofs.Common.{◌≡◌, ◌++◌, length}
use Rattle.srm_gaps.specs.Gaps.{journals_of}
use Rattle.srm_gaps.proofs.told.journals_of.Given as goal

abbrev pub invariant-told : goal.invariant-told
invariant-told l = l.journals.items ++ journals_of l.rest.items ≡ journals_of l.fn.told.items

abbrev pub decreases-told : goal.decreases-told
decreases-told l = length l.rest.items
