use Rattle.srm_live.specs.Typing.{Stays}
use Rattle.srm_live.proofs.typing.stay.Given as goal

abbrev pub invariant-loop : goal.invariant-loop
invariant-loop g l = Stays l.initial.typist l.typist
