-- The law of emptying: how long a bucket takes to run empty, by its rate, its depth and what waits.
use Rattle.std.specs.Prelude.{◌≡◌, ℕ, ◌+◌, ◌*◌, ◌-◌, ◌≤◌, nat_le, true, List, [], ◌∷◌, filter, Contains}
use Rattle.srm_codec.specs.declared.datagram.Datagram.{Datagram}
use Rattle.srm_bucket.specs.Calls.{Classed}
use Rattle.srm_bucket.specs.Ticks.{Tick, charge}
use Rattle.srm_bucket.specs.Tokens.{cost_of}
use Rattle.srm_entries.specs.Entries.{ticked}
use Rattle.srm_entries.specs.Rates.{handed_so_far, ticks_of}
use Rattle.srm_world.specs.declared.start.Start.{Start}
use Rattle.srm_world.specs.Traces.{Trace, of_member, IsRun}
use Rattle.srm_recovery.specs.Timing.{Timing}
use Rattle.srm_recovery.specs.Members.{EntryWithin, so_far, Stays, TicksWithin, EmptiesWithin}

-- what datagrams cost, in millionths of a byte
abbrev pub price : List (Classed Datagram) → ℕ
price [] = 0
price (i ∷ is) = cost_of i.item.length + price is

-- what went in the member's ticks by the time costs
abbrev pub gone_by : Trace → Timing → ℕ → ℕ → ℕ
gone_by t p m now = charge (filter (λ (k : Tick). nat_le (p.clock m + k.moment) now) (ticks_of (of_member m t.entries)))

-- The rate of a member pays for what waits in its bucket at a time, and for what it hands in after that:
--     room    what the rate pays for between two ticks fits the bucket beside the longest datagram
--     short   no datagram that was handed in by a tick within the emptying time is longer
--     paid    what was handed in by then, less what had gone by the time, costs no more than the rate pays for in the emptying time less the time between two ticks
pub record Pays (t : Trace) (p : Timing) (a : Start) (longest now : ℕ) : Type 0 where
  pub room : a.config.rate * p.tick + cost_of longest ≤ cost_of a.config.depth
  pub short : (h : EntryWithin t p a.config.me (now + 1) (now + p.emptying)) (i : Classed Datagram) → ticked h.this ≡ true
      → Contains (handed_so_far a.config.me (so_far h)) i → i.item.length ≤ longest
  pub paid : (h : EntryWithin t p a.config.me (now + 1) (now + p.emptying)) → ticked h.this ≡ true
      → price (handed_so_far a.config.me (so_far h)) ≤ gone_by t p a.config.me now + a.config.rate * (p.emptying - p.tick)

-- Emptying: where a member's clock has begun, it goes on to tick, and its rate pays for what it has, a tick within the emptying time leaves its bucket empty.
abbrev pub EmptyingLaw : Type 0
EmptyingLaw = (t : Trace) (p : Timing) (a : Start) (longest now : ℕ) → IsRun t → Contains t.starts a → Stays t p a.config.me (now + p.emptying)
    → p.clock a.config.me ≤ now → p.tick ≤ p.emptying
    → ((at : ℕ) → now ≤ at → at + p.tick ≤ now + p.emptying → TicksWithin t p a.config.me (at + 1) (at + p.tick))
    → Pays t p a longest now → EmptiesWithin t p a.config.me (now + 1) (now + p.emptying)
