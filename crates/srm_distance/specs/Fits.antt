-- What is kept fits a list of calls: it is what the definitions say of them.
use Rattle.std.specs.Prelude.{◌≡◌, ℕ, ◌<◌, List, [], ◌∷◌, ◌++◌, length, Some, slice_get, slice_index}
use Rattle.srm_names.specs.declared.limits.TheConstants.{MEMBERS}
use Rattle.srm_distance.specs.Calls.{DistanceCall}
use Rattle.srm_distance.specs.Peers.{peer_of}
use Rattle.srm_distance.specs.Content.{DistancesContent}
use Rattle.srm_distance.specs.Distance.{distance}

pub record DistancesFit (least me : ℕ) (calls : List DistanceCall) (d : DistancesContent) : Type 0 where
  pub least_is : d.least ≡ least
  pub me_is : d.me ≡ me
  pub size : length d.peers ≡ MEMBERS
  pub each : (b : ℕ) → b < MEMBERS → slice_get d.peers b ≡ Some (peer_of calls b)

-- one more call: whose distances these are and their floor stay, and what fitted the calls so far fits them with this one
pub record DistancesAdd (call : DistanceCall) (old new : DistancesContent) : Type 0 where
  pub me_stays : new.me ≡ old.me
  pub fits : (least me : ℕ) (calls : List DistanceCall) → DistancesFit least me calls old → DistancesFit least me (calls ++ call ∷ []) new

-- a table has the distance to each member, by its number
pub record IsTableOf (d : DistancesContent) (table : List ℕ) : Type 0 where
  pub each : (least me : ℕ) (calls : List DistanceCall) → DistancesFit least me calls d → (member : ℕ) → member < MEMBERS → slice_index table member ≡ distance least calls me member
