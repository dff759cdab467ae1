use Rattle.std.proofs.Common.{◌≡◌, ◌+◌, drop}
use Rattle.srm_verdicts.specs.VerdictTexts as spec
use Rattle.srm_verdicts.proofs.counting.call_at.Given as goal

abbrev pub invariant-loop-place : goal.invariant-loop-place
invariant-loop-place l = l.place + spec.call_at l.last (drop l.place l.lines) l.left ≡ spec.call_at l.fn.made l.fn.lines l.fn.entry
