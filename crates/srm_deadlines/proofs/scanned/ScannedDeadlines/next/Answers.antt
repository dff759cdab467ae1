use Rattle.std.proofs.Common.{subst, sym, ap, ◌<◌, ◌≤◌, ◌∙◌, length, take, ◌+◌, arith}
use Rattle.std.proofs.lemmas.List.{take_all}
use Rattle.srm_deadlines.specs.Least.{lesser}
use Rattle.srm_deadlines.specs.Places.{IsLeast}
use Rattle.srm_deadlines.proofs.Looking.{LeastSoFar, least_more, least_all}
use Rattle.srm_deadlines.proofs.scanned.ScannedDeadlines.next.Goals as goal

pub loop-i-preserved : goal.loop-i-preserved
loop-i-preserved c =
    let lt : c.loop-i.i < length c.self.inside.moments = omega arith in
    subst (LeastSoFar (take (c.loop-i.i + 1) c.self.inside.moments) c.self.inside.moments) (ap (lesser c.loop-i.least) (sym c.get.ensures) ∙ sym c.lesser-least.ensures)
    (least_more c.self.inside.moments c.loop-i.i c.place-name.result c.loop-i.least lt c.place-name.ensures.place c.loop-i.invariant)

pub returns : goal.returns
returns c =
    let le : length c.self.inside.moments ≤ c.loop-i.i = omega arith in
    subst (λ places. IsLeast places c.loop-i.least) c.self.view_is
    (least_all c.self.inside.moments c.loop-i.least
    (subst (λ seen. LeastSoFar seen c.self.inside.moments c.loop-i.least) (take_all c.loop-i.i c.self.inside.moments le) c.loop-i.invariant))
