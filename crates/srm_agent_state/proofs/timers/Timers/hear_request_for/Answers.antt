use Rattle.std.proofs.Common.{refl}
use Rattle.srm_agent_state.proofs.OneAnswered.{answered_unheld}
use Rattle.srm_agent_state.proofs.timers.Timers.hear_request_for.Goals as goal

pub returns-else-is_held-clause-hears : goal.returns-else-is_held-clause-hears
returns-else-is_held-clause-hears g c =
    answered_unheld c.args.is_held c.args.name c.args.from c.args.dist.now c.args.now c.heard_request.result c.args.self.now (record { asks = c.self-else-is_held.inside.asks; fixes = c.self-else-is_held.inside.fixes })
    (record { asks = c.heard_request.new.self; fixes = c.self-else-is_held.inside.fixes }) c.if-is_held.false (rw (← c.self-else-is_held.view_is) at c.note.ensures.noted) (rw (← c.self-else-is_held.view_is) at c.note.ensures.asks) refl
    c.heard_request.ensures.fits c.heard_request.ensures.kind c.heard_request.ensures.arm
