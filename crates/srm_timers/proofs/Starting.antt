-- What fixtures of tests keep.
use Rattle.std.proofs.Common.{ℕ, zero, suc, ◌≤◌, arith}
use Rattle.std.specs.Prelude.{replicate}
use Rattle.srm_names.specs.declared.limits.TheConstants.{LONGEST_DISTANCE}
use Rattle.srm_timers.specs.Distances.{AreDistances, distance_to}

far_at : (n far member : ℕ) → far ≤ LONGEST_DISTANCE → distance_to (replicate n far) member ≤ LONGEST_DISTANCE
far_at zero far member le = omega arith
far_at (suc n) far zero le = le
far_at (suc n) far (suc member) le = far_at n far member le

pub far_distances : (far : ℕ) → far ≤ LONGEST_DISTANCE → AreDistances (replicate 32 far)
far_distances far le = record { for_each = omega arith; in_range = λ member. far_at 32 far member le }
