use Rattle.std.proofs.Common.{take}
use Rattle.srm_picture.specs.ByEntry.{by_entry}
use Rattle.srm_picture.specs.Brackets.{AreBracketsOf, timers_in}
use Rattle.srm_picture.proofs.brackets.brackets.Given as goal

abbrev pub invariant-loop-index : goal.invariant-loop-index
invariant-loop-index l = AreBracketsOf l.entries (by_entry timers_in (take l.index l.entries)) l.brackets.items
