use Rattle.std.proofs.Common.{◌≡◌, ◌+◌, ◌≤◌, length, map}
use Rattle.srm_member.specs.Lines.{lines_of, bad_line}
use Rattle.srm_member.proofs.Dealt.{DealtSo}
use Rattle.srm_member.proofs.dealing.deal.Given as goal

abbrev pub invariant-loop-line : goal.invariant-loop-line
invariant-loop-line l = record {
  dealt : DealtSo (lines_of l.input) (lines_of l.left) l.pen (map (λ bodies. bodies.items) l.dealt.items);
  same : bad_line 1 (lines_of l.input) ≡ bad_line l.number (lines_of l.left);
  room : l.number + length l.left ≤ length l.input + 1;
}

abbrev pub decreases-loop-line : goal.decreases-loop-line
decreases-loop-line l = length l.left
