use Rattle.std.specs.Vec.Iter.{into_iter_items}
use Rattle.srm_played.proofs.Playing.{Reaches}
use Rattle.srm_played.proofs.played.Played.run.Given as goal

abbrev pub invariant-loop-event : goal.invariant-loop-event
invariant-loop-event l = Reaches l.fn.self l.fn.events.items l.self (into_iter_items l.event-iterator)
