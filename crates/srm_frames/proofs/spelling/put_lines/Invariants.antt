use Rattle.std.proofs.Common.{◌≡◌, ◌++◌, take}
use Rattle.srm_frames.specs.Lines.{lines_text}
use Rattle.srm_frames.proofs.spelling.put_lines.Given as goal

abbrev pub invariant-loop-line : goal.invariant-loop-line
invariant-loop-line l = l.out.items ≡ l.initial.out.items ++ lines_text (take l.line-index l.lines)
