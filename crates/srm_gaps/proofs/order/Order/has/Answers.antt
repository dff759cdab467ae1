use Rattle.std.proofs.Common.{ℕ, Vec, Global, refl}
use Rattle.srm_audit.proofs.Texting.{text_found}
use Rattle.srm_gaps.proofs.order.Order.has.Goals as goal

pub returns : goal.returns
returns c = rw (← c.self.view_is) (text_found (λ (k : Vec ℕ Global). k.items) c.self.inside.sent.keys _ c.args.text.now c.contains.result c.contains.ensures refl)
