use Rattle.std.proofs.Common.{ℕ, Vec, Global}
use Rattle.srm_audit.proofs.Texting.{learns, gains_text}
use Rattle.srm_audit.proofs.spellings.Spellings.add.Goals as goal

pub returns : goal.returns
returns c = rw (← c.self.view_is) (learns c.args.datagram.now _ _ c.requires
    (gains_text (λ (k : Vec ℕ Global). k.items) c.self.inside.spellings.keys c.insert.new.self.keys c.in_ok-text.text c.in_ok-insert.field-0 _ c.in_ok-text.ensures c.in_ok-insert.ensures.keys c.in_ok-insert.ensures.added))
