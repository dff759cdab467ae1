use Rattle.std.proofs.Common.{◌≡◌, true, sym, subst, ap, ◌∙◌}
use Rattle.std.specs.Prelude.{option_map, is_some}
use Rattle.srm_timers.specs.Arms.{Plan, runs_out_at}
use Rattle.srm_timers.specs.AskCalls.{AskContent}
use Rattle.srm_deadlines.specs.Places.{value_at, has_place}
use Rattle.srm_timers.proofs.AskSteps.{placed, backs_off_runs, has_end}
use Rattle.srm_timers.proofs.asks.Asks.heard_request.Goals as goal

pub set-requires-clause-timers : goal.set-requires-clause-timers
set-requires-clause-timers g c =
    subst (λ n. has_place c.args.self.now.timers n ≡ true) (sym (ap (λ (p : Plan). p.name) c.arm-arm.ensures.plan))
    (placed c.args.self.now.timers c.args.name (backs_off_runs c.args.now c.in_ok-exponent.exponent _ (sym c.exponent_when_heard.ensures.value ∙ c.in_ok-exponent.was)))

pub set-requires-clause-expiries : goal.set-requires-clause-expiries
set-requires-clause-expiries g c =
    subst (λ n. has_place c.args.self.now.expiries.places n ≡ true) (sym (ap (λ (p : Plan). p.name) c.arm-arm.ensures.plan))
    (placed c.args.self.now.expiries.places c.args.name
    (ap is_some (subst (λ (a : AskContent). value_at a.expiries.places c.args.name ≡ option_map runs_out_at (value_at a.timers c.args.name)) c.self.view_is (c.self.invariant.expiries c.args.name))
    ∙ has_end (value_at c.args.self.now.timers c.args.name) (backs_off_runs c.args.now c.in_ok-exponent.exponent _ (sym c.exponent_when_heard.ensures.value ∙ c.in_ok-exponent.was))))
