use Rattle.srm_agent.proofs.DueItems.{due_items}
use Rattle.srm_agent.proofs.agent.Agent.due_items.Goals as goal

pub returns : goal.returns
returns g c = rw (← c.self.view_is) (due_items _ c.me-me.result c.session-session.result c.args.asks.now c.args.fixes.now c.in_ok-datagrams.datagrams.items (λ d. d.items) c.spelled.result
    c.me-me.ensures c.session-session.ensures c.in_ok-datagrams.ensures.value c.spelled.ensures)
