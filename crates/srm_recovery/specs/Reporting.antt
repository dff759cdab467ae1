-- The law of reporting: how soon a member's next session message is due, by its rate and the roster.
use Rattle.std.specs.Prelude.{◌≡◌, ℕ, ◌+◌, ◌*◌, ◌/◌, ◌<◌, ◌≤◌, max, true, Contains}
use Rattle.std.specs.List.{AllByRecursion}
use Rattle.srm_codec.specs.declared.datagram.Datagram.{Datagram}
use Rattle.srm_codec.specs.Spelling.{length_of, is_session}
use Rattle.srm_entries.specs.declared.limits.TheConstants.{SECOND, SESSION_SHARE, SHORTEST_INTERVAL}
use Rattle.srm_entries.specs.Configs.{Config}
use Rattle.srm_world.specs.declared.start.Start.{Start}
use Rattle.srm_world.specs.Traces.{Trace, IsRun}
use Rattle.srm_recovery.specs.Timing.{Timing}
use Rattle.srm_recovery.specs.Members.{EntryWithin}
use Rattle.srm_recovery.specs.Network.{OwesBy}

-- the longest interval after a session message of this length: nobody of the roster has left
abbrev pub longest_interval : Config → ℕ → ℕ
longest_interval c longest = max SHORTEST_INTERVAL (SESSION_SHARE * c.members * longest * SECOND / c.rate)

-- no session message that the member sends by the time is longer
abbrev pub SpeaksAtMost : Trace → Timing → ℕ → ℕ → ℕ → Type 0
SpeaksAtMost t p m to longest = (h : EntryWithin t p m 0 to) (g : Datagram) → Contains h.this.effects.outs g → is_session g ≡ true → length_of g ≤ longest

-- the member has a rate, and its longest interval is no longer
abbrev pub ReportsWithin : ℕ → ℕ → ℕ → Start → Type 0
ReportsWithin m longest interval a = a.config.me ≡ m → (0 < a.config.rate) × (longest_interval a.config longest ≤ interval)

-- Reporting: at any time the session message that a member owes next is due by its longest interval later.
abbrev pub ReportingLaw : Type 0
ReportingLaw = (t : Trace) (p : Timing) (m from longest interval : ℕ) → IsRun t
    → SpeaksAtMost t p m from longest → AllByRecursion (ReportsWithin m longest interval) t.starts → OwesBy t p m from (from + interval)
