-- The laws of keeping, of leaving and of silence: what a source drew stays, also where the source has left, and how a member knows that nobody needs it.
use Rattle.std.specs.Prelude.{◌≡◌, ℕ, ◌+◌, ◌-◌, ◌≤◌, ◌⊎◌, false, length}
use Rattle.srm_names.specs.declared.page.Page.{Page}
use Rattle.srm_names.specs.FullName.{FullName}
use Rattle.srm_names.specs.Names.{named, stream_on}
use Rattle.srm_timers.specs.declared.arm.ArmKind.TheVariants.{Ask}
use Rattle.srm_entries.specs.Entries.{drawn_on}
use Rattle.srm_entries.specs.Timers.{asks_for}
use Rattle.srm_world.specs.Traces.{Trace, drawn_by, IsRun, IsHonest}
use Rattle.srm_recovery.specs.Timing.{Timing, settling_time, repair_time, sharing_time}
use Rattle.srm_recovery.specs.Members.{EntryWithin, so_far, AcceptsWithin, HoldsBy, KnowsBy, KnowsManyBy, ReleasesBy, WaitsAtMost}
use Rattle.srm_recovery.specs.Network.{Connects}
use Rattle.srm_recovery.specs.Recovery.{Serves}

-- the name is kept for a member m: it holds it itself, or the network connects it to some member that does
abbrev pub IsKept : Trace → Timing → FullName → ℕ → ℕ → ℕ → Type 0
IsKept t p n m from to = HoldsBy t p m n from ⊎ ((k : ℕ) × Connects (AcceptsWithin t p) t p n m k from to × HoldsBy t p k n from)

-- Keeping: each drawop of a source on a page is kept for a member that knows how many there are. It releases all of them a repair time later. Nothing is asked of the source.
abbrev pub KeepingLaw : Type 0
KeepingLaw = (t : Trace) (p : Timing) (from now to m source : ℕ) (page : Page) (request_wait : ℕ) → IsRun t → IsHonest t.entries
    → ((number : ℕ) → 1 ≤ number → number ≤ length (drawn_by t.entries source page) → IsKept t p (named (stream_on source page) number) m from to)
    → ((number : ℕ) → WaitsAtMost t p Ask m (named (stream_on source page) number) now request_wait)
    → from + settling_time p ≤ now → now + repair_time p request_wait ≤ to
    → KnowsManyBy t p m (stream_on source page) (length (drawn_by t.entries source page)) now
    → ReleasesBy t p m (stream_on source page) (drawn_by t.entries source page) (now + repair_time p request_wait)

-- Leaving: a source has drawn its last on a page, and serves it to one other member k for a sharing time. Then it may leave: whom that member serves it to releases all of it, a sharing
-- time later.
abbrev pub LeavingLaw : Type 0
LeavingLaw = (t : Trace) (p : Timing) (interval request_wait from left to m k source : ℕ) (page : Page) → IsRun t → IsHonest t.entries
    → (h : EntryWithin t p source 0 from) → drawn_on page (so_far h) ≡ drawn_by t.entries source page
    → Serves t p interval request_wait (stream_on source page) source k from left → from + sharing_time p interval request_wait ≤ left
    → Serves t p interval request_wait (stream_on source page) k m left to → left + sharing_time p interval request_wait ≤ to
    → ReleasesBy t p m (stream_on source page) (drawn_by t.entries source page) (left + sharing_time p interval request_wait)

-- Silence: a holder k hears no request for a name, from a delay before a time until a member that misses the name then would have asked, and its request would have come. So a
-- member m that knew of the name at that time, and that the network connects to the holder, holds it.
abbrev pub SilenceLaw : Type 0
SilenceLaw = (t : Trace) (p : Timing) (from now to m k : ℕ) (n : FullName) (request_wait : ℕ) → IsRun t
    → Connects (AcceptsWithin t p) t p n m k from to → WaitsAtMost t p Ask m n now request_wait
    → from + p.emptying + p.delay ≤ now → now + request_wait + p.tick + p.emptying + p.delay ≤ to
    → HoldsBy t p k n from → KnowsBy t p m n now
    → ((h : EntryWithin t p k (now + 1 - p.delay) (now + request_wait + p.tick + p.emptying + p.delay)) → asks_for n h.this ≡ false)
    → HoldsBy t p m n (now + request_wait + p.tick)
