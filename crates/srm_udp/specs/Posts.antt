-- What a wire passes to the system.
use Rattle.std.specs.Prelude.{ℕ, List, [], ◌∷◌, Option, Some, None}
use Rattle.std.specs.declared.net.socket_addr.SocketAddr.{SocketAddr}
use Rattle.srm_wire.specs.declared.loss.Loss.{Loss}

-- bytes that were passed to the system, for this address
pub record Post : Type 0 where
  pub address : SocketAddr
  pub bytes : List ℕ

abbrev pub post : SocketAddr → List ℕ → Post
post address bytes = record { address = address; bytes = bytes }

-- what a socket's sends passed to the system, and the errors that they returned, each oldest first
pub record OutletView : Type 0 where
  pub went : List Post
  pub refused : List (Option Loss)

-- bytes for a member go to its address, and nowhere if it has none
abbrev pub posts_to : Option SocketAddr → List ℕ → List Post
posts_to (Some address) bytes = post address bytes ∷ []
posts_to None bytes = []
