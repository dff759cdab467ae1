-- The laws of recovery, of sharing and of reading: how soon a loss is repaired, and all that a member has is had by another.
use Rattle.std.specs.Prelude.{ℕ, ◌+◌, ◌≤◌}
use Rattle.srm_names.specs.declared.page.Page.{Page}
use Rattle.srm_names.specs.declared.stream.Stream.{Stream}
use Rattle.srm_names.specs.FullName.{FullName}
use Rattle.srm_names.specs.Names.{named, stream_on}
use Rattle.srm_timers.specs.declared.arm.ArmKind.TheVariants.{Ask}
use Rattle.srm_entries.specs.Entries.{drawn_on}
use Rattle.srm_world.specs.Traces.{Trace, IsRun, IsHonest}
use Rattle.srm_recovery.specs.Timing.{Timing, settling_time, repair_time, sharing_time}
use Rattle.srm_recovery.specs.Members.{EntryWithin, so_far, AcceptsWithin, HoldsBy, KnowsBy, ReleasesBy, WaitsAtMost}
use Rattle.srm_recovery.specs.Network.{Connects, Tells}

-- Recovery: the network connects an asker m to a holder k, and has settled. What the asker knows of now, and the holder held from the start, the asker holds a repair time later.
abbrev pub RecoveryLaw : Type 0
RecoveryLaw = (t : Trace) (p : Timing) (from now to m k : ℕ) (n : FullName) (request_wait : ℕ) → IsRun t
    → Connects (AcceptsWithin t p) t p n m k from to → WaitsAtMost t p Ask m n now request_wait
    → from + settling_time p ≤ now → now + repair_time p request_wait ≤ to
    → HoldsBy t p k n from → KnowsBy t p m n now → HoldsBy t p m n (now + repair_time p request_wait)

-- Sharing: the network connects an asker to a holder, and the holder tells the asker of the page. No request timer that the asker sets up to the end waits longer. What the holder held
-- from the start, the asker holds a sharing time later.
abbrev pub SharingLaw : Type 0
SharingLaw = (t : Trace) (p : Timing) (interval request_wait from to m k : ℕ) (n : FullName) → IsRun t
    → Connects (AcceptsWithin t p) t p n m k from to → Tells (AcceptsWithin t p) t p n.stream.page interval k m from to → WaitsAtMost t p Ask m n to request_wait
    → from + sharing_time p interval request_wait ≤ to → 1 ≤ n.number → HoldsBy t p k n from → HoldsBy t p m n (from + sharing_time p interval request_wait)

-- From one time to another a member k serves m a stream: the network connects m to k for each name of it, k tells m of its page, and no request timer of m's for a name of it waits longer.
pub record Serves (t : Trace) (p : Timing) (interval request_wait : ℕ) (s : Stream) (k m from to : ℕ) : Type 0 where
  pub connected : (number : ℕ) → Connects (AcceptsWithin t p) t p (named s number) m k from to
  pub told : Tells (AcceptsWithin t p) t p s.page interval k m from to
  pub waits : (number : ℕ) → WaitsAtMost t p Ask m (named s number) to request_wait

-- Reading: what a source had drawn on a page when it began to serve it to a member, the member has released a sharing time later.
abbrev pub ReadingLaw : Type 0
ReadingLaw = (t : Trace) (p : Timing) (interval request_wait from to m source : ℕ) (page : Page) → IsRun t → IsHonest t.entries
    → Serves t p interval request_wait (stream_on source page) source m from to → from + sharing_time p interval request_wait ≤ to
    → (h : EntryWithin t p source 0 from) → ReleasesBy t p m (stream_on source page) (drawn_on page (so_far h)) (from + sharing_time p interval request_wait)
