use Rattle.std.proofs.Common.{refl, sym, subst, rules}
use Rattle.srm_timers.specs.AskCalls.{AskTimersRun}
use Rattle.srm_deadlines.specs.Places.{value_at}
use Rattle.srm_timers.proofs.AskSteps.{again_ready}
use Rattle.srm_timers.proofs.asks.Asks.set_again.Goals as goal

pub set_all-requires-clause-ready : goal.set_all-requires-clause-ready
set_all-requires-clause-ready g c =
    let run : AskTimersRun c.args.names.now _ = subst (AskTimersRun c.args.names.now) (sym c.self.view_is) c.requires.timers in
    again_ready c.args.dist.now (value_at c.self.inside.timers) c.args.names.now _ _ _ _ _ c.self.invariant.expiries run c.in_ok-reserve.ensures.places refl (search rules)
    c.again-again.ensures.plans c.deref.ensures.value
