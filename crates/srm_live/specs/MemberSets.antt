-- Sets of members, a bit for each.
use Rattle.std.specs.Prelude.{◌≡◌, ℕ, ◌<◌, ◌==◌, Bool, ◌||◌, ◌&&◌, not}
use Rattle.std.specs.Int.{bit_at}
use Rattle.srm_names.specs.declared.limits.TheConstants.{MEMBERS}

-- the member is in the set
abbrev pub has : ℕ → ℕ → Bool
has set member = bit_at set member == 1

-- the set with the member
abbrev pub Gains : ℕ → ℕ → ℕ → Type 0
Gains old member new = (m : ℕ) → m < MEMBERS → has new m ≡ (m == member || has old m)

-- the set without it
abbrev pub Loses : ℕ → ℕ → ℕ → Type 0
Loses old member new = (m : ℕ) → m < MEMBERS → has new m ≡ (not (m == member) && has old m)
