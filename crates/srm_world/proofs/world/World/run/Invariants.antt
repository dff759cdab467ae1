use Rattle.srm_world.proofs.Stepping.{RunsTo}
use Rattle.srm_world.proofs.world.World.run.Given as goal

abbrev pub invariant-loop-event : goal.invariant-loop-event
invariant-loop-event g l = RunsTo g.W.Words.next_word l.fn.self l.events l.event-index l.self
