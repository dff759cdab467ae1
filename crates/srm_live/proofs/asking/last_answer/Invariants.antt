use Rattle.std.proofs.Common.{[]}
use Rattle.srm_live.specs.Asking.{Takes}
use Rattle.srm_live.proofs.asking.last_answer.Given as goal

abbrev pub invariant-loop : goal.invariant-loop
invariant-loop g l = Takes [] l.initial.control l.control
