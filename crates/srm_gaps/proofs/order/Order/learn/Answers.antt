use Rattle.std.proofs.Common.{ℕ, Vec, Global}
use Rattle.srm_audit.proofs.Texting.{learns, gains_text}
use Rattle.srm_gaps.proofs.order.Order.learn.Goals as goal

pub returns-clause-learns : goal.returns-clause-learns
returns-clause-learns c = rw (← c.self.view_is) (learns c.args.datagram.now _ _ c.requires
    (gains_text (λ (k : Vec ℕ Global). k.items) c.self.inside.sent.keys c.insert.new.self.keys c.in_ok-text.text c.in_ok-insert.field-0 _ c.in_ok-text.ensures c.in_ok-insert.ensures.keys c.in_ok-insert.ensures.added))
