use Rattle.std.proofs.Common.{◌≡◌, take}
use Rattle.srm_verdicts.specs.VerdictTexts as spec
use Rattle.srm_verdicts.proofs.counting.calls_in_all.Given as goal

abbrev pub invariant-loop-read : goal.invariant-loop-read
invariant-loop-read l = l.calls ≡ spec.calls_in_all (take l.read-index l.records)
