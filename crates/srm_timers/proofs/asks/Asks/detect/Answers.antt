use Rattle.srm_timers.proofs.AskSteps.{found_ready}
use Rattle.srm_timers.proofs.asks.Asks.detect.Goals as goal

pub set_all-requires-clause-ready : goal.set_all-requires-clause-ready
set_all-requires-clause-ready g c = found_ready c.args.dist.now c.args.names.now _ _ _ _ _ _ c.found-arms.ensures.plans c.deref.ensures.value c.in_ok-room_to_set.ensures.ok c.take_list.ensures.same
