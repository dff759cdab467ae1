use Rattle.std.specs.Prelude.{All}
use Rattle.srm_world.specs.Events.{IsTimely}
use Rattle.srm_script.proofs.script.read_script_in.Given as goal

abbrev pub invariant-loop-number : goal.invariant-loop-number
invariant-loop-number l = All IsTimely l.events.items
