use Rattle.std.proofs.Common.{subst, ap}
use Rattle.srm_agent.specs.Fits.{AgentFits}
use Rattle.srm_entries.specs.Still.{entry_without_effects}
use Rattle.srm_agent.specs.Noting.{gave_by}
use Rattle.srm_entries.specs.declared.entry.Input.TheVariants.{Gave}
use Rattle.srm_entries.specs.declared.entry.Verdict.TheVariants.{Done}
use Rattle.srm_entries.specs.Giving.{given, GiveRight}
use Rattle.srm_agent.proofs.Nexting.{progress_at}
use Rattle.srm_agent.proofs.Giving.{gives_nothing, gives_message, give_continues}
use Rattle.srm_agent.proofs.agent.Agent.hand_over.Goals as goal

pub returns-in_default-clause-enters : goal.returns-in_default-clause-enters
returns-in_default-clause-enters g c = gives_nothing g.W.Words.next_word c.args.self.now c.args.slot _ (ap (gave_by c.args.self.now c.args.slot) c.in_default.is)
    (λ s made past h. subst (λ m. GiveRight s past c.args.slot m) c.in_default.is (c.requires.right s made past h))

pub returns-clause-enters : goal.returns-clause-enters
returns-clause-enters g c = rw (← c.self.view_is) (gives_message g.W.Words.next_word _ c.args.slot c.from.result c.in-Some.message c.give.new.self _ (ap (λ m. entry_without_effects c.self.inside.config.me c.self.inside.last (Gave c.args.slot) Done m c.self.inside.state) c.in-Some.is) c.from.ensures
    (λ s made past h. subst (λ m. GiveRight s past c.args.slot m) c.in-Some.is (c.requires.right s made past (subst (AgentFits s made past) c.self.view_is h)))
    (λ s made past h. c.give.ensures (given past c.args.slot) (progress_at past _ c.args.slot c.from.result c.index_mut.result.now h.progress c.self.invariant.progress c.requires.slot c.from.ensures c.index_mut.ensures.value)
    (give_continues s made past _ c.args.slot c.in-Some.message h (subst (λ m. GiveRight s past c.args.slot m) c.in-Some.is (c.requires.right s made past (subst (AgentFits s made past) c.self.view_is h))))))
