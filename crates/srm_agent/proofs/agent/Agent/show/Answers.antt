use Rattle.std.proofs.Common.{inl}
use Rattle.srm_entries.specs.declared.entry.Input.TheVariants.{Showed}
use Rattle.srm_agent.proofs.Entering.{has_still}
use Rattle.srm_agent.proofs.agent.Agent.show.Goals as goal

pub returns : goal.returns
returns g c = inl (has_still g.W.Words.next_word _ _ c.args.now c.moment-moment.result (Showed c.args.page) c.show_at.result c.moment-moment.ensures.value c.show_at.ensures)
