use Rattle.std.proofs.Common.{refl}
use Rattle.srm_agent_state.specs.TimerCalls.{IsDrawopOf}
use Rattle.srm_names.proofs.Results.{at_err}
use Rattle.srm_agent.proofs.Taken.{drawop_enters, carrying_brings, carrying_is, stays}
use Rattle.srm_store.proofs.Fitting.{still_fits}
use Rattle.srm_agent.specs.Contents.{content_of}
use Rattle.srm_agent.specs.Heeding.{carrying}
use Rattle.srm_agent.proofs.Answered.{taken_entry}
use Rattle.srm_agent.proofs.Spellable.{carried_spellable, kept_spellable}
use Rattle.srm_agent.proofs.agent.Agent.accept_drawop.Goals as goal

pub hear_drawop-requires-clause-rising : goal.hear_drawop-requires-clause-rising
hear_drawop-requires-clause-rising g c = rw c.deref.ensures.value c.in_ok-newly_missing.ensures.rising

pub invariant_of-self : goal.invariant_of-self
invariant_of-self g c = record { last = c.self.invariant.last; progress = c.self.invariant.progress; held = c.self.invariant.held; settings = c.hear_drawop.ensures.settings.each _ c.self.invariant.settings; waiting = c.self.invariant.waiting }

pub returns-in_err-arms-clause-err : goal.returns-in_err-arms-clause-err
returns-in_err-arms-clause-err g c = rw (← c.self.view_is) (at_err c.from_residual-in_err-arms.result (stays _ _ _ _ (still_fits _) c.in_err-arms.ensures.kept c.in_err-arms.ensures.unchosen))

pub invariant_of-self-2 : goal.invariant_of-self-2
invariant_of-self-2 g c = record { last = c.requires.may.in_range; progress = c.self.invariant.progress; held = kept_spellable c.args.drawop _ _ c.keep.ensures (carried_spellable c.args.repairer c.args.drawop c.requires.may.spelled) c.self.invariant.held; settings = c.hear_drawop.ensures.settings.each _ c.self.invariant.settings; waiting = c.self.invariant.waiting }

pub returns-clause-ok : goal.returns-clause-ok
returns-clause-ok g c = rw (← c.self.view_is) (drawop_enters g.W.Words.next_word _ _ c.args.moment (carrying c.args.repairer c.args.drawop) (IsDrawopOf c.is_some-repaired.result c.args.drawop.name) c.args.drawop c.in_ok-newly_missing.newly_missing.items c.distance_table-dist.result.now c.in_ok-arms.arms.items
    _ _ (carrying_brings c.args.repairer c.args.drawop) (carrying_is c.args.repairer c.args.drawop _ c.is_some-repaired.ensures) (rw (← c.self.view_is) at c.requires.may.here) c.requires.may.spelled (rw (← c.self.view_is) at c.requires.may.later) (rw (← c.self.view_is) at c.requires.may.allowed)
    (rw (← c.self.view_is) at c.in_ok-newly_missing.ensures.value) c.distance_table-dist.ensures.value (rw c.deref.ensures.value at c.in_ok-arms.ensures.hears) (still_fits _) c.keep.ensures
    c.add_all.ensures refl (record { last = refl; config = refl; state = refl; showing = refl; progress = refl; bucket = refl; due = refl }) c.self.invariant.settings c.in_ok-arms.ensures.chosen (taken_entry (content_of c.self.inside) _ _ _ _ c.accepted.ensures.heard))
