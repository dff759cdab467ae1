-- What is kept of all members.
use Rattle.std.specs.Prelude.{◌≡◌, ◌≤◌, ℕ, ◌==◌, List, All, length, if◌then◌else◌, Some, slice_get, slice_index}
use Rattle.srm_names.specs.declared.limits.TheConstants.{MEMBERS, LONGEST_DISTANCE}
use Rattle.srm_distance.specs.declared.limits.TheConstants.{SHORTEST_DISTANCE}
use Rattle.srm_distance.specs.declared.peer.Peer.{Peer}
use Rattle.srm_distance.specs.declared.distances.Distances.TheInside.{Inside}
use Rattle.srm_distance.specs.Distance.{estimate}
use Rattle.srm_distance.specs.Echoes.{SentWithin}

pub record DistancesContent : Type 0 where
  pub me : ℕ
  pub least : ℕ
  pub peers : List Peer

abbrev pub content_of : Inside → DistancesContent
content_of d = record { me = d.me; least = d.least; peers = d.peers }

-- the distance from me to a member, if this is kept about it
abbrev pub distance_by : ℕ → ℕ → ℕ → Peer → ℕ
distance_by least me member peer = if member == me then 0 else estimate least peer.returned

-- the floor is in its range, each message was sent at a moment that can be spelled, and the table has the distances that are kept
pub record DistancesAreRight (d : Inside) : Type 0 where
  pub shortest : SHORTEST_DISTANCE ≤ d.least
  pub longest : d.least ≤ LONGEST_DISTANCE
  pub sent : All (λ (p : Peer). SentWithin p.newest_message) d.peers
  pub peers : length d.peers ≡ MEMBERS
  pub size : length d.table ≡ MEMBERS
  pub table : (member : ℕ) (p : Peer) → slice_get d.peers member ≡ Some p → slice_index d.table member ≡ distance_by d.least d.me member p
