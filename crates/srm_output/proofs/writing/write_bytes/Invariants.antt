use Rattle.srm_output.specs.Writing.{AppendsAllBut}
use Rattle.srm_output.proofs.writing.write_bytes.Given as goal

abbrev pub invariant-loop : goal.invariant-loop
invariant-loop g l = AppendsAllBut (g.O.Write.contents l.initial.out) (g.O.Write.contents l.out) l.fn.bytes l.rest
