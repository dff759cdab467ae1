use Rattle.std.proofs.Common.{sym, ◌∙◌, ap, not}
use Rattle.std.specs.Option.{option_copied}
use Rattle.srm_entries.specs.Entries.{held, evidence_in}
use Rattle.srm_entries.specs.Verdicts.{settlings, differs}
use Rattle.srm_agent.proofs.agent.Agent.differs.Goals as goal

pub returns-in-Some : goal.returns-in-Some
returns-in-Some g c = λ s made past h.
    let fits = rw (← c.self.view_is) at h in
    ap not c.same_drawop.ensures ∙ ap (differs c.args.drawop.now) (sym (ap option_copied c.in-Some.is) ∙ c.get.ensures (held past) (evidence_in past) (settlings past) fits.store)

pub returns-in-None : goal.returns-in-None
returns-in-None g c = λ s made past h.
    let fits = rw (← c.self.view_is) at h in
    ap (differs c.args.drawop.now) (sym (ap option_copied c.in-None.is) ∙ c.get.ensures (held past) (evidence_in past) (settlings past) fits.store)
