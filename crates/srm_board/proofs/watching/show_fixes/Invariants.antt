use Rattle.srm_board.specs.Shows.{KeepsTaken}
use Rattle.srm_board.proofs.watching.show_fixes.Given as goal

abbrev pub invariant-loop-name : goal.invariant-loop-name
invariant-loop-name l = KeepsTaken l.initial.shown l.shown
