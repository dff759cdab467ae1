use Rattle.std.specs.Prelude.{string_bytes}
use Rattle.srm_board.proofs.place.token_root.Goals as goal

pub returns : goal.returns
returns g c = (string_bytes c.in_ok-token.token, c.in_ok-token.ensures, c.in_ok-root_of.ensures)
