use Rattle.std.proofs.Common.{◌≡◌, length}
use Rattle.srm_verdicts.specs.Shown.{AreOfBytes}
use Rattle.srm_verdicts.proofs.reading.read_records.Given as goal

abbrev pub invariant-loop-path : goal.invariant-loop-path
invariant-loop-path g l = (length l.records.items ≡ l.path-index) × AreOfBytes l.records.items
