-- The distance to another member, by the echoes that were heard from it.
use Rattle.std.specs.Prelude.{ℕ, ◌==◌, ◌-◌, ◌/◌, max, min, nat_le, List, if◌then◌else◌, Option, Some, None}
use Rattle.std.specs.List.{filter_map}
use Rattle.srm_names.specs.Histories.{first_best}
use Rattle.srm_distance.specs.declared.returned.Returned.{Returned}
use Rattle.srm_names.specs.declared.limits.TheConstants.{LONGEST_DISTANCE}
use Rattle.srm_distance.specs.declared.limits.TheConstants.{FIRST_DISTANCE}
use Rattle.srm_distance.specs.Calls.{DistanceCall, Heard, Forgot}

-- An echo that is heard at t4. It doesn't count where its own moment is still to come.
abbrev pub returned_at : ℕ → Option (ℕ × ℕ) → Option Returned
returned_at t4 None = None
returned_at t4 (Some e) = if nat_le e.0 t4 then Some (record { t1 = e.0; delay = e.1; t4 = t4 }) else None

-- the echo that a call brings from b
abbrev pub returned : ℕ → DistanceCall → Option Returned
returned b (Heard from sent echo now) = if from == b then returned_at now echo else None
returned b (Forgot member) = None

-- of the echoes from b, that of the newest message, as it was heard first
abbrev pub newest : List DistanceCall → ℕ → Option Returned
newest calls b = first_best (λ (r : Returned). r.t1) (filter_map (returned b) calls)

-- half the time on the way there and back, rounded down, at least the floor and at most the limit
abbrev pub half_way : ℕ → Returned → ℕ
half_way least r = max least (min LONGEST_DISTANCE ((r.t4 - r.t1 - r.delay) / 2))

abbrev pub estimate : ℕ → Option Returned → ℕ
estimate least None = max least FIRST_DISTANCE
estimate least (Some r) = half_way least r

-- the distance of me to b, where no distance to another is below the floor `least`
abbrev pub distance : ℕ → List DistanceCall → ℕ → ℕ → ℕ
distance least calls me b = if b == me then 0 else estimate least (newest calls b)
