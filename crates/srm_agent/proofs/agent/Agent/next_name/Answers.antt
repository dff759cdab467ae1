use Rattle.std.proofs.Common.{◌∙◌, ap, ℕ}
use Rattle.srm_entries.specs.Entries.{known}
use Rattle.srm_names.specs.Names.{stream_on}
use Rattle.srm_entries.specs.Configs.{Config}
use Rattle.srm_agent.specs.Drawing.{name_after}
use Rattle.srm_agent.proofs.agent.Agent.next_name.Goals as goal

pub returns-clause-value : goal.returns-clause-value
returns-clause-value g c = λ s made past h.
    c.name_after.ensures.value
    ∙ ap (name_after (stream_on c.me.result c.args.page.now)) (c.known-known.ensures.value _ _ _ ((rw (← c.self.view_is) at h).store))
    ∙ ap (λ (m : ℕ). name_after (stream_on m c.args.page.now) (known past (stream_on m c.args.page.now))) (c.me.ensures ∙ ap (λ (x : Config). x.me) (rw (← c.self.view_is) at h).config)
