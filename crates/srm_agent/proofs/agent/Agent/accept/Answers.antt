use Rattle.std.proofs.Common.{◌∙◌, ap, Err}
use Rattle.std.proofs.lemmas.Result.{on_err_weaker}
use Rattle.srm_agent.specs.Contents.{content_of}
use Rattle.srm_agent.specs.Noting.{verdict_of_outcome}
use Rattle.srm_agent.proofs.Answered.{ignored_by}
use Rattle.srm_agent.proofs.Ignoring.{if_one}
use Rattle.srm_agent.proofs.Roomy.{may_roomy, enters_roomy, stays_on_roomy, stays_roomy, judged_accepted, unslotted_enters, unslotted_judged, with_moment, at_full}
use Rattle.srm_agent.proofs.Spellable.{still_spellable}
use Rattle.srm_agent.proofs.agent.Agent.accept.Goals as goal

pub accept_ready-requires-clause-may : goal.accept_ready-requires-clause-may
accept_ready-requires-clause-may g c = may_roomy c.args.datagram c.args.names.now c.args.moment (content_of c.self.inside) _ c.room_to_learn.ensures.before (rw (← c.self.view_is) at c.requires.may)

pub returns-in-Ok-clause-ok : goal.returns-in-Ok-clause-ok
returns-in-Ok-clause-ok g c = rw (← c.self.view_is) (if_one c.accept_ready.result c.accept_ready.ensures.ok (λ hearing enters. enters_roomy g.W.Words.next_word _ _ _ c.args.moment _ _ c.room_to_learn.ensures.kept enters))

pub returns-in-Ok-clause-judged : goal.returns-in-Ok-clause-judged
returns-in-Ok-clause-judged g c = if_one c.accept_ready.result c.accept_ready.ensures.done (λ hearing done. judged_accepted c.args.datagram _ _ c.requires.may.allowed (ap verdict_of_outcome done))

pub returns-in-Ok-clause-err : goal.returns-in-Ok-clause-err
returns-in-Ok-clause-err g c = rw (← c.self.view_is) (on_err_weaker c.accept_ready.result (stays_on_roomy _ _ _ c.room_to_learn.ensures.kept) c.accept_ready.ensures.err)

pub returns-in-Err-PageLimit-clause-ok : goal.returns-in-Err-PageLimit-clause-ok
returns-in-Err-PageLimit-clause-ok g c = rw (← c.self.view_is) (unslotted_enters g.W.Words.next_word (content_of c.self.inside) _ c.args.moment c.args.datagram c.args.names.now _
    (rw (← c.self.view_is) at c.requires.may.here) (rw (← c.self.view_is) at c.requires.may.later) (rw (← c.self.view_is) at c.requires.may.pages)
    (at_full _ _ _ (c.in-Err-PageLimit.is ∙ ap Err c.in-Err-PageLimit.field-0-is) c.room_to_learn.ensures.limit)
    (with_moment (content_of c.self.inside) _ _ _ (c.room_to_learn.ensures.same (c.in-Err-PageLimit.is ∙ ap Err c.in-Err-PageLimit.field-0-is)) c.ignore_heard.ensures.new) (ignored_by (content_of c.self.inside) _ _ _ _ c.ignore_heard.ensures.heard))

pub returns-in-Err-PageLimit-clause-judged : goal.returns-in-Err-PageLimit-clause-judged
returns-in-Err-PageLimit-clause-judged g c = rw (← c.self.view_is) (unslotted_judged (content_of c.self.inside) c.args.moment c.args.datagram c.args.names.now _ (rw (← c.self.view_is) at c.requires.may.pages)
    (at_full _ _ _ (c.in-Err-PageLimit.is ∙ ap Err c.in-Err-PageLimit.field-0-is) c.room_to_learn.ensures.limit) (ignored_by (content_of c.self.inside) _ _ _ _ c.ignore_heard.ensures.heard))

pub returns-in-Err-Memory-clause-err : goal.returns-in-Err-Memory-clause-err
returns-in-Err-Memory-clause-err g c = rw (← c.self.view_is) (stays_roomy _ _ c.room_to_learn.ensures.kept)

pub invariant_of-self : goal.invariant_of-self
invariant_of-self g c = record { last = c.self.invariant.last; progress = c.self.invariant.progress; held = still_spellable _ _ c.room_to_learn.ensures.kept c.self.invariant.held; settings = c.self.invariant.settings; waiting = c.self.invariant.waiting }

pub invariant_of-self-in-Err-Memory : goal.invariant_of-self-in-Err-Memory
invariant_of-self-in-Err-Memory g c = record { last = c.self.invariant.last; progress = c.self.invariant.progress; held = still_spellable _ _ c.room_to_learn.ensures.kept c.self.invariant.held; settings = c.self.invariant.settings; waiting = c.self.invariant.waiting }
