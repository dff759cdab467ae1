use Rattle.std.proofs.Common.{◌≡◌, true, take}
use Rattle.srm_names.specs.FullName.{FullName}
use Rattle.srm_names.specs.Names.{among, name_below}
use Rattle.srm_deadlines.proofs.scanned.place_in_order.Given as goal

abbrev pub invariant-loop-i : goal.invariant-loop-i
invariant-loop-i l = (m : FullName) → among (take l.i l.names) m ≡ true → name_below m l.name ≡ true
