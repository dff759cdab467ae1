use Rattle.std.proofs.Common.{◌≡◌, take}
use Rattle.std.specs.Prelude.{map}
use Rattle.std.specs.List.{enumerate_from}
use Rattle.srm_picture.specs.Arrows.{launch}
use Rattle.srm_picture.proofs.arrows.launched.Given as goal

abbrev pub invariant-loop-nth : goal.invariant-loop-nth
invariant-loop-nth l = l.launches.items ≡ map (launch l.from) (enumerate_from 0 (take l.nth l.outs))
