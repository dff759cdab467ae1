use Rattle.srm_board.specs.Shows.{KeepsTaken}
use Rattle.srm_board.proofs.watching.show_arms.Given as goal

abbrev pub invariant-loop-arm : goal.invariant-loop-arm
invariant-loop-arm l = KeepsTaken l.initial.shown l.shown
