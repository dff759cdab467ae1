use Rattle.std.proofs.Common.{◌++◌, take}
use Rattle.std.specs.Prelude.{string_bytes}
use Rattle.std.specs.List.{enumerate_from, flat_map}
use Rattle.srm_member.specs.TakenText.{slot_lines, lists_of}
use Rattle.srm_output.specs.Writing.{AppendsAllBut}
use Rattle.srm_member.proofs.printing.print_all.Given as goal

abbrev pub invariant-loop-slot : goal.invariant-loop-slot
invariant-loop-slot g l =
    AppendsAllBut (g.O.Write.contents l.initial.out) (g.O.Write.contents l.out)
    (string_bytes l.initial.lines ++ flat_map (λ worker. slot_lines l.fn.me worker.0 worker.1) (take l.slot (enumerate_from 0 (lists_of l.fn.worked))))
    (string_bytes l.lines)
