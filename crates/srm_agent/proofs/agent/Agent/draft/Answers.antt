use Rattle.std.proofs.Common.{◌∙◌, sym}
use Rattle.srm_names.proofs.Results.{err_is}
use Rattle.srm_store.proofs.Faults.{same_fault}
use Rattle.srm_agent.proofs.Spellable.{still_spellable}
use Rattle.srm_agent.proofs.TicksTimers.{own_same}
use Rattle.srm_agent.proofs.agent.Agent.draft.Goals as goal

pub returns-in_err-room_to_learn-clause-limit : goal.returns-in_err-room_to_learn-clause-limit
returns-in_err-room_to_learn-clause-limit g c = λ e inserted evidence settled h.
    (c.in_err-room_to_learn.ensures.limit inserted evidence settled (rw (← c.self.view_is) at h)).0 (same_fault _ _ (sym (err_is c.from_residual.result _ c.from_residual.ensures.1) ∙ e))

pub invariant_of-self : goal.invariant_of-self
invariant_of-self g c = record { last = c.self.invariant.last; progress = c.self.invariant.progress; held = still_spellable _ _ c.room_to_learn.ensures.kept c.self.invariant.held; settings = c.self.invariant.settings; waiting = c.self.invariant.waiting }

pub invariant_of-self-in_err-room : goal.invariant_of-self-in_err-room
invariant_of-self-in_err-room g c = record { last = c.self.invariant.last; progress = c.self.invariant.progress; held = still_spellable _ _ c.room_to_learn.ensures.kept c.self.invariant.held; settings = c.self.invariant.settings; waiting = own_same _ _ _ _ c.self.invariant.waiting c.room.ensures.queues }

pub invariant_of-self-in_err-draft : goal.invariant_of-self-in_err-draft
invariant_of-self-in_err-draft g c = record { last = c.self.invariant.last; progress = c.self.invariant.progress; held = still_spellable _ _ c.room_to_learn.ensures.kept c.self.invariant.held; settings = c.self.invariant.settings; waiting = own_same _ _ _ _ c.self.invariant.waiting c.room.ensures.queues }

pub invariant_of-self-2 : goal.invariant_of-self-2
invariant_of-self-2 g c = record { last = c.self.invariant.last; progress = c.self.invariant.progress; held = still_spellable _ _ c.room_to_learn.ensures.kept c.self.invariant.held; settings = c.self.invariant.settings; waiting = own_same _ _ _ _ c.self.invariant.waiting c.room.ensures.queues }
