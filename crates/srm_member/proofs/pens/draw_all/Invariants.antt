use Rattle.std.specs.Vec.Iter.{into_iter_items}
use Rattle.srm_member.specs.Strokes.{PenSentAllBut}
use Rattle.srm_member.proofs.pens.draw_all.Given as goal

abbrev pub invariant-loop-body : goal.invariant-loop-body
invariant-loop-body g l = PenSentAllBut l.fn.bodies.items (into_iter_items l.body-iterator) l.initial.pen l.pen
