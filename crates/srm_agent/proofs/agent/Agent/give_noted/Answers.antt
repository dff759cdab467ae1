use Rattle.std.proofs.Common.{◌∙◌, ap}
use Rattle.srm_entries.specs.declared.entry.Input.TheVariants.{Gave}
use Rattle.srm_entries.specs.declared.entry.Verdict.TheVariants.{Done}
use Rattle.srm_agent.specs.Contents.{AgentContent}
use Rattle.srm_entries.specs.Still.{entry_without_effects}
use Rattle.srm_agent.proofs.Giving.{give_notes}
use Rattle.srm_agent.proofs.agent.Agent.give_noted.Goals as goal

pub hand_over-requires-clause-right : goal.hand_over-requires-clause-right
hand_over-requires-clause-right g c = c.in_ok-message.ensures

pub returns-clause-ok : goal.returns-clause-ok
returns-clause-ok g c = give_notes g.W.Words.next_word c.args.self.now c.hand_over.new.self c.args.slot c.in_ok-message.message c.in_ok-noted.noted c.gave.result.entry c.hand_over.ensures.enters c.hand_over.ensures.rest
    c.in_ok-noted.ensures (c.gave.ensures.entry ∙ c.entry-entry.ensures
    ∙ ap (λ m. entry_without_effects c.hand_over.new.self.config.me m (Gave c.args.slot) Done c.in_ok-noted.noted c.hand_over.new.self.state) (ap (λ (x : AgentContent _). x.last) c.self.view_is))
