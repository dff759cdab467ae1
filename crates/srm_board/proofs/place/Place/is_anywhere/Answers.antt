use Rattle.std.proofs.Common.{subst}
use Rattle.std.specs.Prelude.{◌↔◌, IsTrue}
use Rattle.std.specs.Net.Addr.{MatchIp, IsUnspecifiedV4, IsUnspecifiedV6}
use Rattle.srm_board.proofs.place.Place.is_anywhere.Goals as goal

pub returns : goal.returns
returns c = subst (λ ip. IsTrue c.is_unspecified.result ↔ MatchIp ip IsUnspecifiedV4 IsUnspecifiedV6) c.ip.ensures c.is_unspecified.ensures
