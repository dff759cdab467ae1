use Rattle.std.proofs.Common.{ℕ, ◌≤◌}
use Rattle.std.specs.Prelude.{IsSome}
use Rattle.srm_store.specs.Places.{place_at}
use Rattle.srm_store.proofs.places.Places.filled_from.Given as goal

abbrev pub invariant-loop-number : goal.invariant-loop-number
invariant-loop-number l = (n : ℕ) → 1 ≤ n → n ≤ l.number → IsSome (place_at l.self n)
