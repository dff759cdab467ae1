use Rattle.std.proofs.Common.{◌≡◌, arith, rules}
use Rattle.std.specs.Prelude.{Some}
use Rattle.srm_live.proofs.TypedLines.{read_none, read_drawn, read_left, read_cut, read_last, same_stays, same_typed, same_left, same_some, same_last, typed_if, left_if}
use Rattle.srm_live.proofs.typing.draw_read.Goals as goal

pub returns-in-Some-eq0-clause-all : goal.returns-in-Some-eq0-clause-all
returns-in-Some-eq0-clause-all g c =
    let none : c.in_ok-read_next.field-0 ≡ Some 0 = cc in
    (read_last c.draw_last.result _ _ _ _ _ _ _ _ _ _ c.loop.invariant.reads c.in_ok-read_next.ensures.reads none c.in_ok-read_next.ensures.end c.draw_last.ensures.drawn c.draw_last.ensures.ends).0

pub returns-in-Some-eq0-clause-prefix : goal.returns-in-Some-eq0-clause-prefix
returns-in-Some-eq0-clause-prefix g c =
    let none : c.in_ok-read_next.field-0 ≡ Some 0 = cc in
    (read_last c.draw_last.result _ _ _ _ _ _ _ _ _ _ c.loop.invariant.reads c.in_ok-read_next.ensures.reads none c.in_ok-read_next.ensures.end c.draw_last.ensures.drawn c.draw_last.ensures.ends).1

pub loop-preserved : goal.loop-preserved
loop-preserved g c = record {
  room = omega arith;
  same = same_typed _ _ _ _ _ _ _ _ c.loop.invariant.same (typed_if _ _ _ _ _ _ _ _ c.in_ok-draw_bytes-in-Some-2.ensures.all (search rules));
  reads = read_drawn _ _ _ _ _ _ _ _ _ _ _ _ _ c.loop.invariant.reads c.in_ok-read_next.ensures.reads c.in-Some-2.is (typed_if _ _ _ _ _ _ _ _ c.in_ok-draw_bytes-in-Some-2.ensures.all (search rules));
}

pub returns-then-not-branch-clause-all : goal.returns-then-not-branch-clause-all
returns-then-not-branch-clause-all g c = (read_left _ _ _ _ _ _ _ _ _ _ _ c.loop.invariant.reads c.in_ok-read_next.ensures.reads c.in-Some-2.is (left_if _ _ _ _ _ _ _ _ c.in_ok-draw_bytes-in-Some-2.ensures.all (search rules))).0

pub returns-then-not-branch-clause-prefix : goal.returns-then-not-branch-clause-prefix
returns-then-not-branch-clause-prefix g c = (read_left _ _ _ _ _ _ _ _ _ _ _ c.loop.invariant.reads c.in_ok-read_next.ensures.reads c.in-Some-2.is (left_if _ _ _ _ _ _ _ _ c.in_ok-draw_bytes-in-Some-2.ensures.all (search rules))).1

pub returns-then-not-branch-clause-same : goal.returns-then-not-branch-clause-same
returns-then-not-branch-clause-same g c = same_left _ _ _ _ _ _ c.loop.invariant.same (left_if _ _ _ _ _ _ _ _ c.in_ok-draw_bytes-in-Some-2.ensures.all (search rules))

pub loop-preserved-in-None-2 : goal.loop-preserved-in-None-2
loop-preserved-in-None-2 g c = record {
  room = omega arith;
  same = same_stays _ _ _ c.loop.invariant.same c.turn_page.ensures;
  reads = read_none _ _ _ _ _ _ _ _ _ _ c.loop.invariant.reads c.in_ok-read_next.ensures.reads c.in-None-2.is c.turn_page.ensures;
}

pub returns-in_err-draw_bytes-in-Some-2-clause-prefix : goal.returns-in_err-draw_bytes-in-Some-2-clause-prefix
returns-in_err-draw_bytes-in-Some-2-clause-prefix g c = read_cut _ _ _ _ _ _ _ _ _ _ _ c.loop.invariant.reads c.in_ok-read_next.ensures.reads c.in-Some-2.is c.in_err-draw_bytes-in-Some-2.ensures.some

pub returns-in-Some-eq0-clause-same : goal.returns-in-Some-eq0-clause-same
returns-in-Some-eq0-clause-same g c = same_last c.draw_last.result _ _ _ _ _ c.loop.invariant.same c.draw_last.ensures.drawn c.draw_last.ensures.ends

pub returns-in_err-draw_bytes-in-Some-2-clause-same : goal.returns-in_err-draw_bytes-in-Some-2-clause-same
returns-in_err-draw_bytes-in-Some-2-clause-same g c = same_some _ _ _ _ _ _ c.loop.invariant.same c.in_err-draw_bytes-in-Some-2.ensures.some
