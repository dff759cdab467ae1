use Rattle.std.proofs.Common.{refl}
use Rattle.srm_agent_state.proofs.Midway.{waits_before}
use Rattle.srm_agent.proofs.Informed.{hears_roomy, session_enters, rows_rise}
use Rattle.srm_names.proofs.Results.{at_err}
use Rattle.srm_agent.proofs.Taken.{stays}
use Rattle.srm_store.proofs.Fitting.{still_fits}
use Rattle.srm_agent.specs.Contents.{content_of}
use Rattle.srm_agent.proofs.Answered.{taken_entry}
use Rattle.srm_agent.proofs.Spellable.{told_spellable}
use Rattle.srm_agent.proofs.agent.Agent.accept_session.Goals as goal

pub newly_missing_by_rows-requires : goal.newly_missing_by_rows-requires
newly_missing_by_rows-requires g c = rows_rise c.args.datagram c.args.names.now c.requires.session c.requires.may.spelled c.requires.may.named

pub hear_rows-requires-clause-rising : goal.hear_rows-requires-clause-rising
hear_rows-requires-clause-rising g c = rw c.deref-2.ensures.value c.in_ok-newly_missing.ensures.rising

pub invariant_of-self : goal.invariant_of-self
invariant_of-self g c = record { last = c.self.invariant.last; progress = c.self.invariant.progress; held = c.self.invariant.held; settings = c.room_for_rows.ensures.settings.each _ c.self.invariant.settings; waiting = c.self.invariant.waiting }

pub returns-in_err-room_for_rows-clause-err : goal.returns-in_err-room_for_rows-clause-err
returns-in_err-room_for_rows-clause-err g c = rw (← c.self.view_is) (at_err c.from_residual-in_err-room_for_rows.result (stays _ _ _ _ (still_fits _) c.room_for_rows.ensures.kept refl))

pub invariant_of-self-2 : goal.invariant_of-self-2
invariant_of-self-2 g c = record { last = c.requires.may.in_range; progress = c.self.invariant.progress; held = told_spellable c.args.datagram _ _ c.learn_datagram.ensures c.self.invariant.held; settings = c.hear_rows.ensures.settings.each _ (c.room_for_rows.ensures.settings.each _ c.self.invariant.settings); waiting = c.self.invariant.waiting }

pub returns-clause-ok : goal.returns-clause-ok
returns-clause-ok g c = rw (← c.self.view_is) (session_enters g.W.Words.next_word _ _ c.args.moment c.args.datagram c.args.names.now c.in_ok-newly_missing.newly_missing.items c.distance_table-dist.result.now c.unwrap-arms.result.items
    _ c.hear_session_message.new.distances _ c.requires.session c.requires.may.named (rw (← c.self.view_is) at c.requires.may.here) c.requires.may.spelled (rw (← c.self.view_is) at c.requires.may.later) (rw (← c.self.view_is) at c.requires.may.allowed)
    (rw (← c.self.view_is) at c.in_ok-newly_missing.ensures.value) (rw c.me.ensures at c.hear_session_message.ensures) c.distance_table-dist.ensures.value
    (hears_roomy _ _ _ _ _ _ _ _ c.room_for_rows.ensures.kept (rw c.deref-2.ensures.value at (rw c.unwrap-arms.ensures at c.hear_rows.ensures.hears))) (still_fits _) c.learn_datagram.ensures
    c.add_all.ensures refl (record { last = refl; config = refl; state = refl; showing = refl; progress = refl; bucket = refl; due = refl }) c.self.invariant.settings
    (waits_before g.W.Words.next_word _ _ _ _ _ c.room_for_rows.ensures.settings (rw c.unwrap-arms.ensures at c.hear_rows.ensures.chosen)) (taken_entry (content_of c.self.inside) _ _ _ _ c.accepted.ensures.heard))
