-- What a board's server answers to, put together from what its guard does.
use Rattle.std.proofs.Common.{◌≡◌, ◌↔◌, List, IsTrue, ℕ}
use Rattle.std.specs.declared.net.socket_addr.SocketAddr.{SocketAddr}
use Rattle.srm_slate.specs.Guards.{Server}
use Rattle.srm_board.specs.Places.{IsAnywhere, IsServed, IsServedAt, hosts_of}

pub is_served : (asked http : SocketAddr) (server : Server) → IsServedAt asked http → server.hosts ≡ hosts_of http → (IsTrue server.is_anywhere ↔ IsAnywhere http) → IsServed asked server
is_served asked http server at hosts anywhere = record { http = http; at = at; hosts = hosts; anywhere = anywhere }
