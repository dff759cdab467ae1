-- Where a board is served, and which names it has there.
use Rattle.std.specs.Prelude.{◌≡◌, ◌↔◌, ◌⊎◌, ℕ, ◌==◌, Bool, IsTrue, List, [], ◌∷◌, ◌++◌, take, bytes_eq, codes, decimal, if◌then◌else◌}
use Rattle.std.specs.Net.Addr.{MatchIp, IsUnspecifiedV4, IsUnspecifiedV6, ipv4_octets, ipv6_segments}
use Rattle.std.specs.Net.Socket.{socket_ip, socket_port, v4_ip, v6_ip, SameFlowAndScope}
use Rattle.std.specs.Net.Text.{ip_text, socket_text}
use Rattle.std.specs.declared.net.ip_addr.IpAddr.{IpAddr}
use Rattle.std.specs.declared.net.ip_addr.IpAddr.TheVariants as Ip
use Rattle.std.specs.declared.net.socket_addr.SocketAddr.{SocketAddr}
use Rattle.std.specs.declared.net.socket_addr.SocketAddr.TheVariants.{V4, V6}
use Rattle.srm_slate.specs.Guards.{Server}
use Rattle.srm_slate.specs.Tokens.{IsToken}

-- it stands for every address of the machine
abbrev pub IsAnywhere : SocketAddr → Type 0
IsAnywhere http = MatchIp (socket_ip http) IsUnspecifiedV4 IsUnspecifiedV6

-- only this machine reaches it: an address in 127.0.0.0/8, or ::1
abbrev pub is_loopback : SocketAddr → Bool
is_loopback (V4 a) = bytes_eq (take 1 (ipv4_octets (v4_ip a))) (127 ∷ [])
is_loopback (V6 a) = bytes_eq (ipv6_segments (v6_ip a)) (0 ∷ 0 ∷ 0 ∷ 0 ∷ 0 ∷ 0 ∷ 0 ∷ 1 ∷ [])

-- an address as a browser's `Host` has it without a port
abbrev pub bare_text : IpAddr → List ℕ
bare_text (Ip.V4 ip) = ip_text (Ip.V4 ip)
bare_text (Ip.V6 ip) = codes "[" ++ (ip_text (Ip.V6 ip) ++ codes "]")

-- An address with its port. A browser leaves out port 80.
abbrev pub address_hosts : SocketAddr → List (List ℕ)
address_hosts http = socket_text http ∷ (if socket_port http == 80 then bare_text (socket_ip http) ∷ [] else [])

-- the usual name of this machine likewise
abbrev pub localhost_hosts : ℕ → List (List ℕ)
localhost_hosts port = (codes "localhost:" ++ decimal port) ∷ (if port == 80 then codes "localhost" ∷ [] else [])

-- What a browser may name as the `Host` of a board that is served at this address: the address, and at a loopback address `localhost` too.
abbrev pub hosts_of : SocketAddr → List (List ℕ)
hosts_of http = address_hosts http ++ (if is_loopback http then localhost_hosts (socket_port http) else [])

-- the address that a server has: the one that was asked for, or if that has port 0 the same with another port
abbrev pub IsServedAt : SocketAddr → SocketAddr → Type 0
IsServedAt asked http = (http ≡ asked) ⊎ ((socket_port asked ≡ 0) × (socket_ip http ≡ socket_ip asked) × SameFlowAndScope asked http)

-- A server that was to have this address answers to the names of the address that it has, and to any name exactly if that stands for every address of the machine.
pub record IsServed (asked : SocketAddr) (server : Server) : Type 0 where
  pub http : SocketAddr
  pub at : IsServedAt asked http
  pub hosts : server.hosts ≡ hosts_of http
  pub anywhere : IsTrue server.is_anywhere ↔ IsAnywhere http

-- What the paths of a board's server begin with if it has a token: `/TOKEN/`, whose digits are sixteen bytes that the source gave.
abbrev pub IsTokenRoot : (List ℕ → Type 0) → List ℕ → Type 0
IsTokenRoot Gives root = (token : List ℕ) × IsToken Gives token × (root ≡ codes "/" ++ (token ++ codes "/"))
