-- What a member does, holds and knows by a time, and that it keeps up.
use Rattle.std.specs.Prelude.{◌≡◌, ℕ, ◌+◌, ◌<◌, ◌≤◌, nat_le, Bool, true, false, List, [], ◌∷◌, ◌++◌, length, Some, Contains}
use Rattle.std.specs.List.{flat_map, AllByRecursion}
use Rattle.srm_names.specs.declared.stream.Stream.{Stream}
use Rattle.srm_names.specs.declared.drawop.Drawop.{Drawop}
use Rattle.srm_names.specs.FullName.{FullName}
use Rattle.srm_names.specs.Histories.{IsPrefix}
use Rattle.srm_codec.specs.declared.datagram.Datagram.{Datagram}
use Rattle.srm_timers.specs.declared.arm.ArmKind.{ArmKind}
use Rattle.srm_timers.specs.declared.arm.Armed.{Armed}
use Rattle.srm_timers.specs.FixCalls.{held_until}
use Rattle.srm_entries.specs.declared.entry.Entry.{Entry}
use Rattle.srm_entries.specs.Entries.{accepted, ticked, state, is_gone, is_held, known, released}
use Rattle.srm_entries.specs.Distances.{distance}
use Rattle.srm_entries.specs.Timers.{arm_in}
use Rattle.srm_entries.specs.Sessions.{charged}
use Rattle.srm_entries.specs.Rates.{handed_so_far}
use Rattle.srm_world.specs.declared.start.Start.{Start}
use Rattle.srm_world.specs.Traces.{Trace, of_member}
use Rattle.srm_recovery.specs.Timing.{Timing}

-- an entry of a member at a time from one up to another, with the member's entries before and after it
pub record EntryWithin (t : Trace) (p : Timing) (m from to : ℕ) : Type 0 where
  pub before : List Entry
  pub this : Entry
  pub after : List Entry
  pub split : of_member m t.entries ≡ before ++ this ∷ after
  pub not_before : from ≤ p.clock m + this.moment
  pub not_after : p.clock m + this.moment ≤ to

-- the member's entries up to this one
abbrev pub so_far : {t : Trace} {p : Timing} {m from to : ℕ} → EntryWithin t p m from to → List Entry
so_far h = h.before ++ h.this ∷ []

-- What a member does between two times.

abbrev pub TicksWithin : Trace → Timing → ℕ → ℕ → ℕ → Type 0
TicksWithin t p m from to = (h : EntryWithin t p m from to) × (ticked h.this ≡ true)

abbrev pub SendsWithin : Trace → Timing → ℕ → Datagram → ℕ → ℕ → Type 0
SendsWithin t p m g from to = (h : EntryWithin t p m from to) × Contains h.this.effects.outs g

abbrev pub AcceptsWithin : Trace → Timing → ℕ → Datagram → ℕ → ℕ → Type 0
AcceptsWithin t p m g from to = (h : EntryWithin t p m from to) × (accepted h.this ≡ Some g)

-- the bucket is empty: as many datagrams went as were handed in
abbrev pub nothing_waits : ℕ → List Entry → Bool
nothing_waits me es = nat_le (length (handed_so_far me es)) (length (flat_map charged es))

-- a tick leaves the bucket empty
abbrev pub EmptiesWithin : Trace → Timing → ℕ → ℕ → ℕ → Type 0
EmptiesWithin t p m from to = (h : EntryWithin t p m from to) × (ticked h.this ≡ true) × (nothing_waits m (so_far h) ≡ true)

-- What a member has by a time.

abbrev pub HoldsBy : Trace → Timing → ℕ → FullName → ℕ → Type 0
HoldsBy t p m n now = (h : EntryWithin t p m 0 now) × (is_held (so_far h) n ≡ true)

-- it knows of the name: it holds it or misses it
abbrev pub KnowsBy : Trace → Timing → ℕ → FullName → ℕ → Type 0
KnowsBy t p m n now = (1 ≤ n.number) × (h : EntryWithin t p m 0 now) × (n.number ≤ known (so_far h) n.stream)

-- it knows that the stream has so many drawops
abbrev pub KnowsManyBy : Trace → Timing → ℕ → Stream → ℕ → ℕ → Type 0
KnowsManyBy t p m s many now = (h : EntryWithin t p m 0 now) × (many ≤ known (so_far h) s)

-- what it has released of the stream begins with these drawops
abbrev pub ReleasesBy : Trace → Timing → ℕ → Stream → List Drawop → ℕ → Type 0
ReleasesBy t p m s drawops now = (h : EntryWithin t p m 0 now) × IsPrefix drawops (released (so_far h) s)

-- How long a member waits.

-- no timer of the kind that it sets for the name by the time waits longer
abbrev pub WaitsAtMost : Trace → Timing → ArmKind → ℕ → FullName → ℕ → ℕ → Type 0
WaitsAtMost t p kind m n to longest = (h : EntryWithin t p m 0 to) (a : Armed) → arm_in kind n h.this ≡ Some a → a.arm.wait ≤ longest

-- No hold-off of its lasts longer: at no time, up to the end of the run, it takes another member to be so far that one would. That is 300 ms at least, since it takes another one to be
-- 100 ms away before it heard an echo of it.
abbrev pub HoldsOffAtMost : Trace → ℕ → ℕ → Type 0
HoldsOffAtMost t m longest = AllByRecursion (λ (a : Start).
    a.config.me ≡ m → (before after : List Entry) (b : ℕ) → of_member m t.entries ≡ before ++ after → held_until 0 (distance a.config before b) ≤ longest) t.starts

-- it is in the roster, and by the time it hasn't left
pub record Stays (t : Trace) (p : Timing) (m to : ℕ) : Type 0 where
  pub inside : m < length t.starts
  pub present : (h : EntryWithin t p m 0 to) → is_gone (state (so_far h)) ≡ false

-- From one time to another a member keeps up: it stays, ticks often enough, and often enough its bucket is empty.
pub record KeepsUp (t : Trace) (p : Timing) (m from to : ℕ) : Type 0 where
  pub stays : Stays t p m to
  pub ticks : (now : ℕ) → from ≤ now → now + p.tick ≤ to → TicksWithin t p m (now + 1) (now + p.tick)
  pub empties : (now : ℕ) → from ≤ now → now + p.emptying ≤ to → EmptiesWithin t p m (now + 1) (now + p.emptying)
