-- Places by number, in blocks.
use Rattle.std.specs.Prelude.{◌≡◌, ℕ, ◌/◌, ◌%◌, ◌+◌, ◌<◌, ◌≤◌, nat_lt, Bool, true, not, ◌&&◌, cond, List, [], length, filter, find, slice_index_or, Option, None, IsSome, is_some, if◌then◌else◌, ◌==◌}
use Rattle.srm_names.specs.declared.limits.TheConstants.{DRAWOPS}
use Rattle.srm_names.specs.declared.drawop.Drawop.{Drawop}
use Rattle.srm_names.specs.Histories.{count_up}
use Rattle.srm_store.specs.declared.places.TheConstants.{BLOCK}

-- what is at a place: nothing, where no block goes so far
unfoldable pub place_at : List (List (Option Drawop)) → ℕ → Option Drawop
place_at blocks number = slice_index_or (slice_index_or blocks (number / BLOCK) []) (number % BLOCK) None

-- there is a place of this number
unfoldable pub has_place : List (List (Option Drawop)) → ℕ → Bool
has_place blocks number = nat_lt (number % BLOCK) (length (slice_index_or blocks (number / BLOCK) []))

-- a block has at least the places that it had, and at each what was there
pub record Grown (old new : List (Option Drawop)) : Type 0 where
  pub same : (i : ℕ) → slice_index_or new i None ≡ slice_index_or old i None
  pub longer : length old ≤ length new

-- no place loses or changes what is at it
pub record SamePlaces (old new : List (List (Option Drawop))) : Type 0 where
  pub each : (number : ℕ) → place_at new number ≡ place_at old number

-- places stay
pub record StillHas (old new : List (List (Option Drawop))) : Type 0 where
  pub each : (number : ℕ) → has_place old number ≡ true → has_place new number ≡ true

-- one place is written
pub record Writes (number : ℕ) (value : Option Drawop) (old new : List (List (Option Drawop))) : Type 0 where
  pub each : (n : ℕ) → place_at new n ≡ (if n == number then value else place_at old n)

-- the places from 1 to this one are filled, and the next is empty
pub record FilledTo (blocks : List (List (Option Drawop))) (last : ℕ) : Type 0 where
  pub filled : (n : ℕ) → 1 ≤ n → n ≤ last → IsSome (place_at blocks n)
  pub gap : place_at blocks (last + 1) ≡ None

-- whether a number isn't held
abbrev pub is_gap : List (List (Option Drawop)) → ℕ → Bool
is_gap blocks number = not (is_some (place_at blocks number))

-- how many of the numbers from 1 to this one aren't held
abbrev pub gaps_up_to : List (List (Option Drawop)) → ℕ → ℕ
gaps_up_to blocks last = length (filter (is_gap blocks) (count_up 1 last))

-- the first number above one, up to a last, that isn't held
abbrev pub next_gap : List (List (Option Drawop)) → (after last : ℕ) → Option ℕ
next_gap blocks after last = find (λ k. nat_lt after k && is_gap blocks k) (count_up 1 last)

-- 0 for a number that is held, else 1
abbrev pub one_unless_filled : List (List (Option Drawop)) → ℕ → ℕ
one_unless_filled blocks number = cond (is_some (place_at blocks number)) 0 1

-- there is nothing past the last number
pub record EndsInTime (blocks : List (List (Option Drawop))) : Type 0 where
  pub past : (n : ℕ) → DRAWOPS < n → place_at blocks n ≡ None
