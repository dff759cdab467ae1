-- The ticks, and how much may go at a moment. A tick is made of pops that follow one another at one moment, up to and
-- with the first that lets nothing go; hand-ins and refills between them don't part them.
use Rattle.std.specs.Prelude.{ℕ, ◌+◌, ◌*◌, ◌-◌, ◌≤◌, ◌==◌, ◌&&◌, min, max, List, [], ◌∷◌, map, if◌then◌else◌, Option, Some, None, is_some}
use Rattle.std.specs.List.{flat_map}
use Rattle.srm_names.specs.Histories.{Step, steps, greatest}
use Rattle.srm_bucket.specs.Calls.{Classed, BucketCall, Handed, Refilled, Popped}
use Rattle.srm_bucket.specs.Tokens.{cost_of}

abbrev pub moment_of : {T : Type 0} → BucketCall T → ℕ
moment_of (Handed c) = 0
moment_of (Refilled now) = now
moment_of (Popped now went) = now

-- the last moment: the greatest so far, as a lower one counts as the last
abbrev pub last_moment : {T : Type 0} → List (BucketCall T) → ℕ
last_moment calls = greatest (map moment_of calls)

-- a pop, at the moment that counts
pub record Pop (T : Type 0) : Type 0 where
  pub moment : ℕ
  pub went : Option (Classed T)

abbrev pub popped_in : {T : Type 0} → List (BucketCall T) → BucketCall T → List (Pop T)
popped_in before (Handed c) = []
popped_in before (Refilled now) = []
popped_in before (Popped now went) = record { moment = max (last_moment before) now; went = went } ∷ []

abbrev pub popped_at : {T : Type 0} → Step (BucketCall T) → List (Pop T)
popped_at s = popped_in s.before s.this

abbrev pub pops : {T : Type 0} → List (BucketCall T) → List (Pop T)
pops calls = flat_map popped_at (steps calls)

-- a tick: its moment, and what went in it costs, in millionths of a byte
pub record Tick : Type 0 where
  pub moment : ℕ
  pub cost : ℕ

abbrev pub cost : {T : Type 0} → Option (Classed T) → ℕ
cost None = 0
cost (Some c) = cost_of c.item.length

-- a tick of one pop
abbrev pub alone : {T : Type 0} → Pop T → Tick
alone p = record { moment = p.moment; cost = cost p.went }

-- A pop before the ticks that follow it: it is part of the first where something went in it and the moment is the same.
abbrev pub joined : {T : Type 0} → Pop T → List Tick → List Tick
joined p [] = alone p ∷ []
joined p (t ∷ ts) =
    if is_some p.went && (p.moment == t.moment) then record { moment = t.moment; cost = cost p.went + t.cost } ∷ ts
    else alone p ∷ t ∷ ts

abbrev pub parted : {T : Type 0} → List (Pop T) → List Tick
parted [] = []
parted (p ∷ ps) = joined p (parted ps)

abbrev pub ticks : {T : Type 0} → List (BucketCall T) → List Tick
ticks calls = parted (pops calls)

abbrev pub charge : List Tick → ℕ
charge [] = 0
charge (t ∷ ts) = t.cost + charge ts

-- what a bucket of a rate and a depth lets go from one moment to another
abbrev pub allowance : ℕ → ℕ → ℕ → ℕ → ℕ
allowance rate depth from now = cost_of depth + rate * (now - from)

-- no tick is after the moment, and what went from each on, up to the moment, is within the allowance
abbrev pub IsWithin : ℕ → ℕ → ℕ → List Tick → Type 0
IsWithin rate depth now [] = Unit {0}
IsWithin rate depth now (t ∷ ts) = (t.moment ≤ now) × (charge (t ∷ ts) ≤ allowance rate depth t.moment now) × IsWithin rate depth now ts

-- how much may still go at a moment, in millionths of a byte: the least of a full bucket and, for each tick, the
-- allowance from it on less what went from it on
abbrev pub level : ℕ → ℕ → ℕ → List Tick → ℕ
level rate depth now [] = cost_of depth
level rate depth now (t ∷ ts) = min (allowance rate depth t.moment now - charge (t ∷ ts)) (level rate depth now ts)
