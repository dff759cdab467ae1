-- What a store and distances become as more is heard.
use Rattle.std.specs.Prelude.{ℕ, List, [], ◌++◌, Option, Some, option_map, ◌≡◌, ◌∷◌}
use Rattle.std.specs.List.{cons_option}
use Rattle.srm_names.specs.FullName.{FullName}
use Rattle.srm_names.specs.declared.drawop.Drawop.{Drawop}
use Rattle.srm_store.specs.Finals.{Settling}
use Rattle.srm_store.specs.Fits.{StoreFits}
use Rattle.srm_store.specs.Stores.{StoreContent}
use Rattle.srm_codec.specs.declared.datagram.Datagram.{Datagram}
use Rattle.srm_codec.specs.Spelling.{names_in}
use Rattle.srm_distance.specs.Calls.{DistanceCall}
use Rattle.srm_distance.specs.Content.{DistancesContent}
use Rattle.srm_distance.specs.Fits.{DistancesFit}
use Rattle.srm_entries.specs.Distances.{calls_of}
use Rattle.srm_entries.specs.Verdicts.{settling_of}

-- these names are known to exist too
pub record LearnsNames (names : List FullName) (old new : StoreContent) : Type 0 where
  pub finals : new.finals ≡ old.finals
  pub each : (inserted : List Drawop) (evidence : List FullName) (settled : List Settling) → StoreFits inserted evidence settled old → StoreFits inserted (evidence ++ names) settled new

-- the distances after a datagram was heard
pub record HearsToo (me now : ℕ) (g : Datagram) (old new : DistancesContent) : Type 0 where
  pub each : (least : ℕ) (calls : List DistanceCall) → DistancesFit least me calls old → DistancesFit least me (calls ++ calls_of me now (Some g)) new

-- a member is settled with these rows, if it left
pub record SettlesToo (leaver : Option ℕ) (rows : List FullName) (old new : StoreContent) : Type 0 where
  pub each : (inserted : List Drawop) (evidence : List FullName) (settled : List Settling) → StoreFits inserted evidence settled old
      → StoreFits inserted evidence (settled ++ cons_option (option_map (λ m. record { member = m; rows = rows }) leaver) []) new

-- the names of a datagram are known to exist too, and a farewell settles its sender
pub record LearnsToo (g : Datagram) (old new : StoreContent) : Type 0 where
  pub each : (inserted : List Drawop) (evidence : List FullName) (settled : List Settling) → StoreFits inserted evidence settled old → StoreFits inserted (evidence ++ names_in g) (settled ++ cons_option (settling_of (Some g)) []) new

-- a drawop is held, and its name known to exist
pub record HoldsToo (d : Drawop) (old new : StoreContent) : Type 0 where
  pub each : (inserted : List Drawop) (evidence : List FullName) (settled : List Settling) → StoreFits inserted evidence settled old → StoreFits (inserted ++ d ∷ []) (evidence ++ d.name ∷ []) settled new
