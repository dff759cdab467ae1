-- The bucket law: what may go in which order, and how much.
use Rattle.std.specs.Prelude.{◌≡◌, ℕ, ◌<◌, ◌≤◌, nat_le, Bool, true, false, List, [], ◌∷◌, ◌++◌, if◌then◌else◌, max, Option, Some, None, IfSome, IsSome}
use Rattle.std.specs.Bool.{OnTrue}
use Rattle.std.specs.List.{AllByRecursion}
use Rattle.srm_names.specs.Histories.{IsPrefix, steps}
use Rattle.srm_bucket.specs.declared.class.Class.{Class}
use Rattle.srm_bucket.specs.Calls.{Classed, BucketCall, Handed, Refilled, Popped}
use Rattle.srm_bucket.specs.Classes.{rank, handed, departed, next_queued}
use Rattle.srm_bucket.specs.Ticks.{last_moment, ticks, cost, level, IsWithin}

abbrev pub went_in : {T : Type 0} → BucketCall T → Option (Classed T)
went_in (Handed c) = None
went_in (Refilled now) = None
went_in (Popped now went) = went

abbrev pub lets_nothing_go : {T : Type 0} → Option (Classed T) → Bool
lets_nothing_go None = true
lets_nothing_go (Some c) = false

-- a tick ends with the first pop that lets nothing go
abbrev pub ends_tick : {T : Type 0} → BucketCall T → Bool
ends_tick (Handed c) = false
ends_tick (Refilled now) = false
ends_tick (Popped now went) = lets_nothing_go went

-- nothing that was handed in of a higher class is left
abbrev pub NoneHigher : {T : Type 0} → List (BucketCall T) → Classed T → Type 0
NoneHigher before c = (class : Class) → rank class < rank c.class → departed class before ≡ handed class before

-- how much may go at a moment, after the calls so far; a moment below the last one counts as the last
abbrev pub level_at : {T : Type 0} → ℕ → ℕ → List (BucketCall T) → ℕ → ℕ
level_at rate depth calls now = level rate depth (max (last_moment calls) now) (ticks calls)

-- The law at a call, with the calls before it and those up to and with it:
--     in_order         by class, what went is a prefix of what was handed in
--     highest_first    where an item goes in the call, nothing of a higher class was left
--     not_too_much     from each tick on, no more went than the depth, and the rate times the time
--     all_that_may     where the call ends a tick, nothing is left, or what would go next costs more than the level
pub record GoesRight {T : Type 0} (rate depth : ℕ) (before upto : List (BucketCall T)) (call : BucketCall T) : Type 0 where
  pub in_order : (class : Class) → IsPrefix (departed class upto) (handed class upto)
  pub highest_first : IfSome (went_in call) (NoneHigher before)
  pub not_too_much : IsWithin rate depth (last_moment upto) (ticks upto)
  pub all_that_may : OnTrue (ends_tick call) (IfSome (next_queued upto) (λ c. level_at rate depth upto (last_moment upto) < cost (Some c)))

abbrev pub BucketLaw : {T : Type 0} → ℕ → ℕ → List (BucketCall T) → Type 0
BucketLaw rate depth calls = AllByRecursion (λ s. GoesRight rate depth s.before (s.before ++ s.this ∷ []) s.this) (steps calls)

-- what goes, where there are tokens for it
abbrev pub covered : {T : Type 0} → ℕ → Option (Classed T) → Option (Classed T)
covered tokens None = None
covered tokens (Some c) = if nat_le (cost (Some c)) tokens then Some c else None

-- what a pop lets go at a moment: the first item of the highest class, where the level covers it
abbrev pub may_go : {T : Type 0} → ℕ → ℕ → List (BucketCall T) → ℕ → Option (Classed T)
may_go rate depth calls now = covered (level_at rate depth calls now) (next_queued calls)

-- the first moment, from the last one on, at which an item can go
pub record IsFirstToGo {T : Type 0} (rate depth : ℕ) (calls : List (BucketCall T)) (moment : ℕ) : Type 0 where
  pub not_before : last_moment calls ≤ moment
  pub goes : IsSome (may_go rate depth calls moment)
  pub no_sooner : (m : ℕ) → last_moment calls ≤ m → m < moment → may_go rate depth calls m ≡ None
