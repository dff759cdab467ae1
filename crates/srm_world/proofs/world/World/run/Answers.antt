use Rattle.std.proofs.Common.{ℕ, ◌<◌, length, sym, subst, take}
use Rattle.srm_names.proofs.Results.{at_err}
use Rattle.srm_world.specs.Events.{Follows}
use Rattle.srm_world.proofs.Stepping.{runs_on, stepped}
use Rattle.srm_world.proofs.world.World.run.Goals as goal

pub returns-in_err-happen-clause-err : goal.returns-in_err-happen-clause-err
returns-in_err-happen-clause-err g c =
    let stopped : (n : ℕ) × (n < length c.args.events.now) × Follows c.args.self.now.trace.starts c.args.self.now.trace.entries (take n c.args.events.now) c.happen.new.self.trace.entries = (
      c.loop-event.event-index,
      c.loop-event-test.true,
      subst (λ p. Follows c.args.self.now.trace.starts c.args.self.now.trace.entries (take c.loop-event.event-index c.args.events.now) p.trace.entries) (sym c.in_err-happen.ensures.err) c.loop-event.invariant.follows,
    ) in at_err _ stopped

pub loop-event-preserved : goal.loop-event-preserved
loop-event-preserved g c = runs_on _ _ _ _ _ _ _ c.loop-event.invariant c.loop-event-test.true c.event-item.is (stepped _ _ _ _ c.in_ok-happen.ensures.follows c.in_ok-happen.ensures.starts c.in_ok-happen.ensures.words c.in_ok-happen.ensures.lawful)
