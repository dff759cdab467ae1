use Rattle.std.proofs.Common.{◌++◌, take}
use Rattle.std.specs.Prelude.{string_bytes}
use Rattle.srm_member.specs.TakenText.{slot_lines}
use Rattle.srm_output.specs.Writing.{AppendsAllBut}
use Rattle.srm_member.proofs.printing.print_slot.Given as goal

abbrev pub invariant-loop-message : goal.invariant-loop-message
invariant-loop-message g l = AppendsAllBut (g.O.Write.contents l.initial.out) (g.O.Write.contents l.out) (string_bytes l.initial.lines ++ slot_lines l.fn.me l.fn.slot (take l.message-index l.fn.list)) (string_bytes l.lines)
