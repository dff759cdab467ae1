use Rattle.std.specs.Prelude.{◌≡◌, take}
use Rattle.srm_wire.specs.Networks.{copies_at}
use Rattle.srm_wire.proofs.mem_wire.copies_of.Given as goal

abbrev pub invariant-loop-number : goal.invariant-loop-number
invariant-loop-number l = l.copies.items ≡ copies_at l.went l.last (take l.number-index l.numbers.items)
