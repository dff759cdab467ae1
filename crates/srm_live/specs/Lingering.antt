-- How long a member stays for others.
use Rattle.std.specs.Prelude.{ℕ, ◌-◌, ◌==◌, max, nat_le, nat_lt, Bool, ◌&&◌, ◌||◌, is_some, if◌then◌else◌}
use Rattle.srm_agent.specs.declared.outstanding.Outstanding.{Outstanding}
use Rattle.srm_live.specs.declared.patience.Lingering.{Lingering}
use Rattle.srm_live.specs.declared.patience.TheConstants.{LONGEST, PATIENCE, SESSIONS}

-- others may need a member: one of its repair timers runs, or requests or repairs wait for the rate
abbrev pub is_needed : Outstanding → Bool
is_needed o = is_some o.next_repair || nat_lt 0 o.waiting_shown || nat_lt 0 o.waiting_other

-- how long nothing may have been needed before it leaves: longer if it misses something itself
abbrev pub quiet_after : ℕ → ℕ → ℕ
quiet_after linger missing = if nat_lt 0 missing && nat_lt 0 linger then max linger PATIENCE else linger

-- nothing was needed for so long
abbrev pub is_quiet : ℕ → Lingering → Bool
is_quiet linger l = nat_le (quiet_after linger l.missing) (l.lingered - l.needed)

-- enough session messages told of its last stroke, or it doesn't linger
abbrev pub has_told : ℕ → Lingering → Bool
has_told linger l = linger == 0 || nat_le SESSIONS l.sessions

-- It leaves once nothing was needed for so long and enough session messages told of its last stroke; and after the longest time in any case.
abbrev pub is_over : ℕ → Lingering → Bool
is_over linger l = nat_le LONGEST l.lingered || (is_quiet linger l && has_told linger l)
