use Rattle.std.proofs.Common.{ap, ◌∙◌, ℕ, length}
use Rattle.srm_names.specs.Names.{stream_on}
use Rattle.srm_entries.specs.Entries.{missing}
use Rattle.srm_agent.proofs.Asking.{misses_more}
use Rattle.srm_agent.proofs.agent.Agent.missing_on.Goals as goal

pub loop-number-preserved : goal.loop-number-preserved
loop-number-preserved g c =
    misses_more c.args.self.now c.args.page.now c.loop-number.number c.loop-number.count c.missing_of-count.result c.loop-number.invariant
    (λ s made past fits. c.missing_of-count.ensures.value s made past fits ∙ ap (λ (m : ℕ). length (missing past (stream_on m c.args.page.now))) c.member.ensures)
    c.missing_of-count.ensures.last
