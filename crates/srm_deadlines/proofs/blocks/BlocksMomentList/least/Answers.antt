use Rattle.std.proofs.Common.{subst, length}
use Rattle.srm_deadlines.specs.MomentLists.{IsLeastIn}
use Rattle.srm_deadlines.proofs.MomentLists.{least_of_all}
use Rattle.srm_deadlines.proofs.blocks.BlocksMomentList.least.Goals as goal

pub returns : goal.returns
returns g c = subst (λ moments. IsLeastIn moments 0 (length moments) c.least.result) c.self.view_is (least_of_all _ _ _ c.self.invariant c.least.ensures)
