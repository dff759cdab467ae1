-- The times that the laws speak of, in microseconds, and what follows from them.
use Rattle.std.specs.Prelude.{ℕ, ◌+◌, ◌*◌, max}
use Rattle.srm_entries.specs.declared.entry.Entry.{Entry}

-- The laws tell all times by one clock, and members their moments by others, which may have begun at any time and run as fast:
--     clock         the time at which each member's clock read 0
-- Bounds:
--     delay         a datagram arrives at most so long after it was sent
--     tick          a member ticks at least so often
--     emptying      a tick leaves a member's bucket empty at least so often
--     repair_wait   no repair timer waits longer
--     hold_off      no hold-off lasts longer
pub record Timing : Type 0 where
  pub clock : ℕ → ℕ
  pub delay : ℕ
  pub tick : ℕ
  pub emptying : ℕ
  pub repair_wait : ℕ
  pub hold_off : ℕ

-- the time of an entry of a member
abbrev pub time_of : Timing → ℕ → Entry → ℕ
time_of p m e = p.clock m + e.moment

-- The network settles: hold-offs end whose repairs were lost, and what waited in buckets before has gone and arrived.
abbrev pub settling_time : Timing → ℕ
settling_time p = max (p.hold_off + p.delay) p.emptying + p.delay

-- A request timer expires, and then a repair timer. Each is seen by the next tick; then the request, or the repair, waits in a bucket and is under way.
abbrev pub repair_time : Timing → ℕ → ℕ
repair_time p request_wait = request_wait + p.repair_wait + 2 * (p.tick + p.emptying + p.delay)

-- A session message that is due within the interval arrives, while the network settles. Then a repair.
abbrev pub sharing_time : Timing → ℕ → ℕ → ℕ
sharing_time p interval request_wait = max (settling_time p) (interval + p.tick + p.delay) + repair_time p request_wait
