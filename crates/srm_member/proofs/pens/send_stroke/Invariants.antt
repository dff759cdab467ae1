use Rattle.std.proofs.Common.{◌≡◌}
use Rattle.srm_member.specs.Strokes.{stroke_on}
use Rattle.srm_member.proofs.pens.send_stroke.Given as goal

abbrev pub invariant-loop : goal.invariant-loop
invariant-loop g l = record {
  pen : l.pen ≡ l.initial.pen;
  stroke : l.stroke ≡ stroke_on l.fn.page l.initial.pen.number l.fn.body;
}
