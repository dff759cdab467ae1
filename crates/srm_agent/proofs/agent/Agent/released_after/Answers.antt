use Rattle.std.proofs.Common.{subst, ◌≤◌, ◌<◌}
use Rattle.srm_entries.specs.Entries.{held, evidence_in}
use Rattle.srm_entries.specs.Verdicts.{settlings}
use Rattle.srm_agent.proofs.Nexting.{released_at, none_released}
use Rattle.srm_agent.proofs.agent.Agent.released_after.Goals as goal

pub returns-then-given-released : goal.returns-then-given-released
returns-then-given-released g c = λ s made past h.
    let fits = rw (← c.self.view_is) at h in
    none_released (held past) c.args.stream c.args.given (subst (λ n. n ≤ c.args.given) (c.released.ensures.value (held past) (evidence_in past) (settlings past) fits.store) c.if-given-released.true)

pub returns : goal.returns
returns g c = λ s made past h.
    let fits = rw (← c.self.view_is) at h in
    released_at (held past) c.args.stream c.args.given c.in_ok-at.field-0 _ (subst (λ n. c.args.given < n) (c.released.ensures.value (held past) (evidence_in past) (settlings past) fits.store) c.if-given-released.false)
    c.in_ok-at.ensures.value (c.get.ensures (held past) (evidence_in past) (settlings past) fits.store)
