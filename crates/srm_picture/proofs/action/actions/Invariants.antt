use Rattle.std.proofs.Common.{take}
use Rattle.srm_picture.specs.Actions.{AreActions}
use Rattle.srm_picture.proofs.action.actions.Given as goal

abbrev pub invariant-loop-index : goal.invariant-loop-index
invariant-loop-index l = AreActions (take l.index l.entries) l.actions.items
