use Rattle.std.proofs.Common.{refl}
use Rattle.srm_agent.proofs.Requested.{fresh_in, request_enters}
use Rattle.srm_names.proofs.Results.{at_err}
use Rattle.srm_agent.proofs.Taken.{stays}
use Rattle.srm_store.proofs.Fitting.{still_fits}
use Rattle.srm_agent.specs.Contents.{content_of}
use Rattle.srm_agent.proofs.Answered.{taken_entry}
use Rattle.srm_agent.proofs.Spellable.{learnt_spellable}
use Rattle.srm_agent.proofs.agent.Agent.accept_request.Goals as goal

pub hear_request-requires-clause-rising : goal.hear_request-requires-clause-rising
hear_request-requires-clause-rising g c = rw c.deref.ensures.value c.in_ok-newly_missing.ensures.rising

pub invariant_of-self : goal.invariant_of-self
invariant_of-self g c = record { last = c.self.invariant.last; progress = c.self.invariant.progress; held = c.self.invariant.held; settings = c.hear_request.ensures.settings.each _ c.self.invariant.settings; waiting = c.self.invariant.waiting }

pub returns-in_err-arms-clause-err : goal.returns-in_err-arms-clause-err
returns-in_err-arms-clause-err g c = rw (← c.self.view_is) (at_err c.from_residual-in_err-arms.result (stays _ _ _ _ (still_fits _) c.in_err-arms.ensures.kept c.in_err-arms.ensures.unchosen))

pub invariant_of-self-2 : goal.invariant_of-self-2
invariant_of-self-2 g c = record { last = c.requires.may.in_range; progress = c.self.invariant.progress; held = learnt_spellable c.args.names.now _ _ c.learn_all.ensures c.self.invariant.held; settings = c.hear_request.ensures.settings.each _ c.self.invariant.settings; waiting = c.self.invariant.waiting }

pub returns-clause-ok : goal.returns-clause-ok
returns-clause-ok g c = rw (← c.self.view_is) (request_enters g.W.Words.next_word _ _ c.args.moment c.args.sender c.args.name c.args.mask c.args.names.now c.in_ok-newly_missing.newly_missing.items c.distance_table-dist.result.now c.in_ok-arms.arms.items
    _ _ c.requires.may.named (rw (← c.self.view_is) at c.requires.may.here) c.requires.may.spelled (rw (← c.self.view_is) at c.requires.may.later) (rw (← c.self.view_is) at c.requires.may.allowed)
    (fresh_in c.stream.ensures (rw (← c.self.view_is) at c.in_ok-newly_missing.ensures.value)) c.distance_table-dist.ensures.value (rw c.deref.ensures.value at c.in_ok-arms.ensures.hears) (still_fits _) c.learn_all.ensures
    c.add_all.ensures refl (record { last = refl; config = refl; state = refl; showing = refl; progress = refl; bucket = refl; due = refl }) c.self.invariant.settings c.in_ok-arms.ensures.chosen (taken_entry (content_of c.self.inside) _ _ _ _ c.accepted.ensures.heard))
