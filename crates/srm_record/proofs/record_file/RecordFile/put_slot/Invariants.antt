use Rattle.std.proofs.Common.{take}
use Rattle.srm_frames.specs.Lines.{lines_text}
use Rattle.srm_record.specs.Takes.{slot_lines}
use Rattle.srm_record.specs.Writing.{GoesOn}
use Rattle.srm_record.proofs.record_file.RecordFile.put_slot.Given as goal

abbrev pub invariant-loop-message : goal.invariant-loop-message
invariant-loop-message g l = GoesOn l.initial.self l.self (lines_text (slot_lines l.initial.self.last l.slot (take l.message-index l.messages)))
