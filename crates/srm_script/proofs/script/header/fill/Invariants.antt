use Rattle.std.proofs.Common.{◌≡◌, length}
use Rattle.srm_script.proofs.script.header.fill.Given as goal

abbrev pub invariant-loop : goal.invariant-loop
invariant-loop l = length l.words.items ≡ l.counter
