use Rattle.std.proofs.Common.{◌≡◌, ◌+◌, ◌++◌, map, length}
use Rattle.srm_member.specs.Strokes.{pens_with}
use Rattle.srm_member.proofs.pens.PenThreads.start.Given as goal

abbrev pub invariant-loop : goal.invariant-loop
invariant-loop g l = record {
  starts : l.self ++ pens_with l.pens.items (map (λ bodies. bodies.items) l.dealt.items) ≡ l.initial.self ++ pens_with l.initial.pens.items (map (λ bodies. bodies.items) l.initial.dealt.items);
  left : length l.pens.items + l.counter ≡ l.end;
}
