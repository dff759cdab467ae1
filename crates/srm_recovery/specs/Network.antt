-- What a network does for two members: it connects an asker to a holder, and carries the holder's session messages.
use Rattle.std.specs.Prelude.{◌≡◌, ℕ, ◌+◌, ◌-◌, ◌≤◌, Bool, true, ◌⊎◌, List, ◌++◌, Some, is_some, Contains}
use Rattle.std.specs.List.{AllByRecursion}
use Rattle.srm_names.specs.declared.page.Page.{Page}
use Rattle.srm_names.specs.FullName.{FullName}
use Rattle.srm_codec.specs.declared.datagram.Datagram.{Datagram}
use Rattle.srm_codec.specs.Spelling.{is_session}
use Rattle.srm_timers.specs.declared.arm.ArmKind.TheVariants.{Fix}
use Rattle.srm_entries.specs.declared.entry.Entry.{Entry}
use Rattle.srm_entries.specs.Entries.{accepted, shown, last_moment}
use Rattle.srm_entries.specs.Timers.{asker_in, repairs_in}
use Rattle.srm_entries.specs.Sessions.{session_due}
use Rattle.srm_world.specs.declared.start.Start.{Start}
use Rattle.srm_world.specs.Traces.{Trace, of_member}
use Rattle.srm_recovery.specs.Timing.{Timing, time_of}
use Rattle.srm_recovery.specs.Members.{EntryWithin, SendsWithin, WaitsAtMost, HoldsOffAtMost, KeepsUp}

-- requests for a name, and repairs of it
abbrev pub requests : FullName → Datagram → Bool
requests n g = is_some (asker_in n (Some g))

abbrev pub repairs : FullName → Datagram → Bool
repairs n g = repairs_in n (Some g)

-- What it means that a datagram arrives at a member between two times: the member accepts it (`AcceptsWithin`), or hears it (`HearsWithin`).
abbrev pub Arrival : Type 1
Arrival = ℕ → Datagram → ℕ → ℕ → Type 0

-- what m sends of a kind arrives at k, at most the delay later
abbrev pub Carries : Arrival → Trace → Timing → (Datagram → Bool) → ℕ → ℕ → ℕ → ℕ → Type 0
Carries arrives t p kind m k from to =
    (h : EntryWithin t p m from to) (g : Datagram) → kind g ≡ true → Contains h.this.effects.outs g → time_of p m h.this + p.delay ≤ to
    → arrives k g (time_of p m h.this) (time_of p m h.this + p.delay)

-- Each datagram of a kind that m accepts was sent by k at most the delay before, or arrives at k too, at most the delay sooner or later.
abbrev pub ComesToBoth : Arrival → Trace → Timing → (Datagram → Bool) → ℕ → ℕ → ℕ → ℕ → Type 0
ComesToBoth arrives t p kind m k from to =
    (h : EntryWithin t p m (from + p.delay) to) (g : Datagram) → kind g ≡ true → accepted h.this ≡ Some g → time_of p m h.this + p.delay ≤ to
    → SendsWithin t p k g (time_of p m h.this - p.delay) (time_of p m h.this) ⊎ arrives k g (time_of p m h.this - p.delay) (time_of p m h.this + p.delay)

-- Datagrams of a kind come from m to k: those that m sends, and those that suppress m.
pub record Reaches (arrives : Arrival) (t : Trace) (p : Timing) (kind : Datagram → Bool) (m k from to : ℕ) : Type 0 where
  pub sent : Carries arrives t p kind m k from to
  pub heard : ComesToBoth arrives t p kind m k from to

-- From one time to another the network connects an asker m to a holder k of a name:
--     asker, holder           both keep up
--     asked                   requests for the name come from the asker to the holder
--     repaired                repairs of it come from the holder to the asker
--     repair_wait, hold_off   no repair timer of the holder for it waits longer, and no hold-off of the holder lasts longer
pub record Connects (arrives : Arrival) (t : Trace) (p : Timing) (n : FullName) (m k from to : ℕ) : Type 0 where
  pub asker : KeepsUp t p m from to
  pub holder : KeepsUp t p k from to
  pub asked : Reaches arrives t p (requests n) m k from to
  pub repaired : Reaches arrives t p (repairs n) k m from to
  pub repair_wait : WaitsAtMost t p Fix k n to p.repair_wait
  pub hold_off : HoldsOffAtMost t k p.hold_off

-- at each time up to `from`, the session message that the member owes next is due by `late`
abbrev pub OwesBy : Trace → Timing → ℕ → ℕ → ℕ → Type 0
OwesBy t p m from late = AllByRecursion (λ (a : Start). a.config.me ≡ m
    → (before after : List Entry) → of_member m t.entries ≡ before ++ after → p.clock m + last_moment a.made before ≤ from → p.clock m + session_due a.config a.made before ≤ late) t.starts

-- From one time to another a member k tells m how far a page goes: it shows the page and no other, the session message that it owes at first is due within the interval, and its
-- session messages arrive.
pub record Tells (arrives : Arrival) (t : Trace) (p : Timing) (page : Page) (interval k m from to : ℕ) : Type 0 where
  pub shows : (h : EntryWithin t p k (from + 1) to) → shown h.before ≡ page
  pub due : OwesBy t p k from (from + interval)
  pub carried : Carries arrives t p is_session k m from to
