use Rattle.std.proofs.Common.{◌≡◌, ◌++◌, take, length, string_bytes}
use Rattle.std.specs.Prelude.{flat_map, zip}
use Rattle.srm_verdicts.specs.VerdictTexts as spec
use Rattle.srm_verdicts.proofs.wording.verdict_text.Given as goal

abbrev pub invariant-loop-path : goal.invariant-loop-path
invariant-loop-path l = string_bytes l.text ≡ spec.verdict_line l.names (spec.paths_of l.paths) l.records l.verdict ++ flat_map (spec.line_of l.names) (take (length l.yielded) (zip (spec.paths_of l.paths) l.records))
