use Rattle.std.proofs.Common.{subst}
use Rattle.srm_agent.specs.SessionMessages.{CountsOnce}
use Rattle.srm_agent.proofs.Leavers.{counts_more}
use Rattle.srm_agent.proofs.agent.Agent.members_remaining.Goals as goal

pub loop-number-preserved : goal.loop-number-preserved
loop-number-preserved g c =
    counts_more c.args.self.now c.loop-number.number c.loop-number.count c.once-count.result c.loop-number.invariant
    (subst (λ m. CountsOnce c.args.self.now m c.once-count.result) c.member.ensures c.once-count.ensures)
