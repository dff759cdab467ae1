-- The law of delivering: a network that delivers among some members connects each two of them.
use Rattle.std.specs.Prelude.{◌≡◌, ◌≢◌, ℕ, ◌+◌, ◌-◌, Bool, true, Some}
use Rattle.srm_names.specs.FullName.{FullName}
use Rattle.srm_codec.specs.declared.datagram.Datagram.{Datagram}
use Rattle.srm_codec.specs.Spelling.{is_session}
use Rattle.srm_timers.specs.declared.arm.ArmKind.TheVariants.{Fix}
use Rattle.srm_entries.specs.Entries.{accepted}
use Rattle.srm_world.specs.Traces.{Trace}
use Rattle.srm_recovery.specs.Timing.{Timing, time_of}
use Rattle.srm_recovery.specs.Members.{EntryWithin, SendsWithin, AcceptsWithin, WaitsAtMost, HoldsOffAtMost, KeepsUp}
use Rattle.srm_recovery.specs.Network.{Carries, Connects}

-- From one time to another the network delivers among some members:
--     keep_up                 each of them keeps up
--     delivers                what one of them sends, each other one of them accepts, at most the delay later
--     fresh                   what one of them accepts, one of them sent at most the delay before
--     repair_wait, hold_off   none of their repair timers waits longer, and none of their hold-offs lasts longer
pub record Delivers (t : Trace) (p : Timing) (among : ℕ → Bool) (from to : ℕ) : Type 0 where
  pub keep_up : (m : ℕ) → among m ≡ true → KeepsUp t p m from to
  pub delivers : (m k : ℕ) → among m ≡ true → among k ≡ true → m ≢ k → Carries (AcceptsWithin t p) t p (λ g. true) m k from to
  pub fresh : (m : ℕ) → among m ≡ true → (h : EntryWithin t p m (from + p.delay) to) (g : Datagram) → accepted h.this ≡ Some g
      → (k : ℕ) × (among k ≡ true) × SendsWithin t p k g (time_of p m h.this - p.delay) (time_of p m h.this)
  pub repair_wait : (m : ℕ) (n : FullName) → among m ≡ true → WaitsAtMost t p Fix m n to p.repair_wait
  pub hold_off : (m : ℕ) → among m ≡ true → HoldsOffAtMost t m p.hold_off

-- Delivering: where the network delivers among some members, it connects each two of them for every name, and carries session messages between them.
abbrev pub DeliveringLaw : Type 0
DeliveringLaw = (t : Trace) (p : Timing) (among : ℕ → Bool) (from to m k : ℕ) → Delivers t p among from to → among m ≡ true → among k ≡ true → m ≢ k
    → ((n : FullName) → Connects (AcceptsWithin t p) t p n m k from to) × Carries (AcceptsWithin t p) t p is_session k m from to
