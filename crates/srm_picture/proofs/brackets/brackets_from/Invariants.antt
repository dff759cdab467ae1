use Rattle.std.proofs.Common.{take}
use Rattle.srm_picture.specs.Brackets.{AreBracketsOf, timers_of}
use Rattle.srm_picture.proofs.brackets.brackets_from.Given as goal

abbrev pub invariant-loop-nth : goal.invariant-loop-nth
invariant-loop-nth l = AreBracketsOf l.entries (timers_of l.from (take l.nth l.arms)) l.brackets.items
