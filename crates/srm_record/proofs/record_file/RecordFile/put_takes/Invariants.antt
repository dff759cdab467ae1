use Rattle.std.proofs.Common.{take}
use Rattle.std.specs.List.{flat_map, enumerate_from}
use Rattle.srm_frames.specs.Lines.{lines_text}
use Rattle.srm_record.specs.Takes.{lent, listed_lines}
use Rattle.srm_record.specs.Writing.{GoesOn}
use Rattle.srm_record.proofs.record_file.RecordFile.put_takes.Given as goal

abbrev pub invariant-loop-slot : goal.invariant-loop-slot
invariant-loop-slot g l = GoesOn l.initial.self l.self (lines_text (flat_map (listed_lines l.initial.self.last) (take l.slot (enumerate_from 0 (lent l.taken)))))
