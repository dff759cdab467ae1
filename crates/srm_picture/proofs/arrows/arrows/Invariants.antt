use Rattle.std.proofs.Common.{◌≡◌, take}
use Rattle.srm_picture.specs.ByEntry.{by_entry}
use Rattle.srm_picture.specs.Arrows.{arrows_of}
use Rattle.srm_picture.proofs.arrows.arrows.Given as goal

abbrev pub invariant-loop-number : goal.invariant-loop-number
invariant-loop-number l = l.arrows.items ≡ by_entry (arrows_of l.arrivals) (take l.number l.launches)
