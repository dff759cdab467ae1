-- Where a board may be served.
use Rattle.std.specs.Prelude.{◌≡◌, true}
use Rattle.std.specs.declared.net.socket_addr.SocketAddr.{SocketAddr}
use Rattle.std.specs.Net.Addr.{MatchIp, IsUnspecifiedV4, IsUnspecifiedV6}
use Rattle.std.specs.Net.Socket.{socket_ip}
use Rattle.srm_options.specs.declared.board.BoardOptions.{BoardOptions}
use Rattle.srm_options.specs.Options.{AreInRange}

-- each address of the machine, as 0.0.0.0 says
abbrev pub IsEverywhere : SocketAddr → Type 0
IsEverywhere address = MatchIp (socket_ip address) IsUnspecifiedV4 IsUnspecifiedV6

-- What is served at each address of the machine has a token.
abbrev pub KeepsOut : BoardOptions → Type 0
KeepsOut o = IsEverywhere o.http → o.has_token ≡ true

-- The options of the member are in their ranges, and nobody reaches the board from everywhere without its token.
pub record IsBoardInRange (o : BoardOptions) : Type 0 where
  pub node : AreInRange o.node
  pub keeps_out : KeepsOut o
