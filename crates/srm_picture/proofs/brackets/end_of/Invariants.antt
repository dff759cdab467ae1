use Rattle.srm_picture.specs.Brackets.{NoneEnds, timer}
use Rattle.srm_picture.proofs.brackets.end_of.Given as goal

abbrev pub invariant-loop-index : goal.invariant-loop-index
invariant-loop-index l = NoneEnds l.entries (timer l.from l.arm) l.index
