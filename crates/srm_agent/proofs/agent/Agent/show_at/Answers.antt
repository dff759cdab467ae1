use Rattle.std.proofs.Common.{sym, ◌∙◌, refl}
use Rattle.srm_agent.proofs.Entering.{max_above, show_gone, show_full, show_done}
use Rattle.srm_agent.proofs.Slotted.{is_full, is_roomy}
use Rattle.srm_agent.proofs.agent.Agent.show_at.Goals as goal

pub returns-then-is_gone : goal.returns-then-is_gone
returns-then-is_gone g c = rw (← c.self.view_is) (show_gone g.W.Words.next_word _ c.args.moment c.args.moment c.args.page.now _ (rw (← c.self.view_is) at (sym c.is_gone.ensures ∙ c.if-is_gone.true)) refl
    (rw (← c.self.view_is) at (max_above c.args.self.now.last c.args.moment c.requires.later)))

pub returns-then-not-has_room : goal.returns-then-not-has_room
returns-then-not-has_room g c = rw (← c.self.view_is) (show_full g.W.Words.next_word _ c.args.moment c.args.moment c.args.page.now _ (rw (← c.self.view_is) at (sym c.is_gone.ensures ∙ c.if-is_gone.false))
    (is_full _ _ c.has_room.ensures c.if-not-has_room.true) refl (rw (← c.self.view_is) at (max_above c.args.self.now.last c.args.moment c.requires.later)))

pub returns : goal.returns
returns g c = rw (c.turn_to.ensures, ← c.self.view_is) (show_done g.W.Words.next_word _ c.args.moment c.args.moment c.args.page.now _ _ (rw (← c.self.view_is) at (sym c.is_gone.ensures ∙ c.if-is_gone.false))
    (is_roomy _ _ c.has_room.ensures c.if-not-has_room.false) refl refl (rw (← c.self.view_is) at (max_above c.args.self.now.last c.args.moment c.requires.later)))
