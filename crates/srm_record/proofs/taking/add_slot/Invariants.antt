use Rattle.std.proofs.Common.{◌≡◌, ◌++◌, take}
use Rattle.srm_record.specs.Takes.{slot_lines}
use Rattle.srm_record.proofs.taking.add_slot.Given as goal

abbrev pub invariant-loop-message : goal.invariant-loop-message
invariant-loop-message l = l.lines.items ≡ l.initial.lines.items ++ slot_lines l.last l.slot (take l.message-index l.list)
