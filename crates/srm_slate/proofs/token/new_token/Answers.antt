use Rattle.std.proofs.Common.{rules}
use Rattle.srm_slate.proofs.token.new_token.Goals as goal

pub returns : goal.returns
returns g c = (c.fill.new.buffer, c.in_ok-fill.ensures, (search rules), c.in_ok-text_of.ensures)
