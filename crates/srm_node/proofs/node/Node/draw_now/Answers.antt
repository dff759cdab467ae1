use Rattle.srm_node.proofs.Keeping.{node_drew}
use Rattle.srm_node.proofs.node.Node.draw_now.Goals as goal

pub invariant_of-self : goal.invariant_of-self
invariant_of-self g c = node_drew _ _ _ _ _ _ _ _ _ _ c.draw_strokes-kept.result.1 c.self.invariant c.draw_strokes-kept.ensures.lawful c.take-hand.ensures.value c.draw_strokes-kept.ensures.draws

pub invariant_of-self-2 : goal.invariant_of-self-2
invariant_of-self-2 g c = node_drew _ _ _ _ _ _ _ _ _ _ c.draw_strokes-kept.result.1 c.self.invariant c.draw_strokes-kept.ensures.lawful c.take-hand.ensures.value c.draw_strokes-kept.ensures.draws

pub returns-in_err-drawn-clause-keeps : goal.returns-in_err-drawn-clause-keeps
returns-in_err-drawn-clause-keeps g c = (node_drew _ _ _ _ _ _ _ _ _ _ c.draw_strokes-kept.result.1 c.self.invariant c.draw_strokes-kept.ensures.lawful c.take-hand.ensures.value c.draw_strokes-kept.ensures.draws).lists

pub returns-clause-keeps : goal.returns-clause-keeps
returns-clause-keeps g c = (node_drew _ _ _ _ _ _ _ _ _ _ c.draw_strokes-kept.result.1 c.self.invariant c.draw_strokes-kept.ensures.lawful c.take-hand.ensures.value c.draw_strokes-kept.ensures.draws).lists
