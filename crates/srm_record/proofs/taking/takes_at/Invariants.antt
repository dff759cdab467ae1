use Rattle.std.proofs.Common.{◌≡◌, take}
use Rattle.std.specs.List.{flat_map, enumerate_from}
use Rattle.srm_record.specs.Takes.{taken_in, listed_lines}
use Rattle.srm_record.proofs.taking.takes_at.Given as goal

abbrev pub invariant-loop-slot : goal.invariant-loop-slot
invariant-loop-slot l = l.lines.items ≡ flat_map (listed_lines l.fn.last) (take l.slot (enumerate_from 0 (taken_in l.fn.taken)))
