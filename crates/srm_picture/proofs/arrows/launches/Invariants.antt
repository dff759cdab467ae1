use Rattle.std.proofs.Common.{◌≡◌, take}
use Rattle.srm_picture.specs.ByEntry.{by_entry}
use Rattle.srm_picture.specs.Arrows.{launched_in}
use Rattle.srm_picture.proofs.arrows.launches.Given as goal

abbrev pub invariant-loop-index : goal.invariant-loop-index
invariant-loop-index l = l.launches.items ≡ by_entry launched_in (take l.index l.entries)
