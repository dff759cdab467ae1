-- Which calls a wire may tell of as failed.
use Rattle.std.specs.Prelude.{◌≡◌, List, Contains}
use Rattle.std.specs.declared.net.socket_addr.SocketAddr.{SocketAddr}
use Rattle.srm_udp.specs.declared.first_failure.WireFailure.{WireFailure}
use Rattle.srm_udp.specs.declared.first_failure.WireFailure.TheVariants.{Send, Receive}

-- the address that a wire is bound to, and those that it sends to, by number
pub record FailureView : Type 0 where
  pub own : SocketAddr
  pub roster : List SocketAddr

-- A receive fails at the wire's own address, and a send to one of those that it sends to.
abbrev pub IsOfWire : FailureView → WireFailure → Type 0
IsOfWire w (Send address cause) = Contains w.roster address
IsOfWire w (Receive address cause) = address ≡ w.own
