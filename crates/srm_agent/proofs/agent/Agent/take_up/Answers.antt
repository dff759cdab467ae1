use Rattle.srm_bucket.specs.declared.class.Class.TheVariants.{New}
use Rattle.srm_outbox.proofs.Handing.{own_behind}
use Rattle.srm_agent.proofs.Spellable.{kept_spellable}
use Rattle.srm_agent.proofs.agent.Agent.take_up.Goals as goal

pub invariant_of-self : goal.invariant_of-self
invariant_of-self g c = record {
  last = c.requires.moment;
  progress = c.self.invariant.progress;
  held = kept_spellable c.args.drawop _ _ c.keep.ensures c.requires.spellable c.self.invariant.held;
  settings = c.self.invariant.settings;
  waiting = own_behind _ _ (record { class = New; item = c.args.going }) _ _ c.self.invariant.waiting c.wait_to_go.ensures.gains (rw (← c.self.view_is) at c.requires.own);
}
