use Rattle.std.proofs.Common.{length}
use Rattle.srm_frames.specs.LinesRead.{SoFar}
use Rattle.srm_frames.proofs.reading.read_lines.Given as goal

abbrev pub invariant-lines : goal.invariant-lines
invariant-lines l = SoFar l.initial.reader l.lines.items l.reader

abbrev pub decreases-lines : goal.decreases-lines
decreases-lines l = length l.reader
