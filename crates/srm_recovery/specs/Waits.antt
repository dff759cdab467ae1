-- The law of waits: how long timers wait and hold-offs last, by the greatest distance.
use Rattle.std.specs.Prelude.{◌≡◌, ℕ, ◌+◌, ◌*◌, ◌^◌, ◌≤◌, List, ◌++◌, map}
use Rattle.std.specs.List.{AllByRecursion}
use Rattle.srm_names.specs.FullName.{FullName}
use Rattle.srm_names.specs.Histories.{greatest}
use Rattle.srm_timers.specs.declared.limits.TheConstants.{GREATEST_EXPONENT, HOLD_OFF}
use Rattle.srm_timers.specs.declared.arm.ArmKind.TheVariants.{Ask, Fix}
use Rattle.srm_entries.specs.declared.entry.Entry.{Entry}
use Rattle.srm_entries.specs.Distances.{distance}
use Rattle.srm_world.specs.declared.start.Start.{Start}
use Rattle.srm_world.specs.Traces.{Trace, of_member, IsRun}
use Rattle.srm_recovery.specs.Timing.{Timing}
use Rattle.srm_recovery.specs.Members.{WaitsAtMost, HoldsOffAtMost}

-- at no time does the member take another one to be at a greater distance, which is 100 ms at least: it is taken for so much before an echo was heard
abbrev pub NearAtMost : List Entry → ℕ → Start → Type 0
NearAtMost es greatest_distance a = (before after : List Entry) (b : ℕ) → of_member a.config.me es ≡ before ++ after → distance a.config before b ≤ greatest_distance

-- the longest waits of a member's timers over this distance
abbrev pub longest_request_wait : ℕ → Start → ℕ
longest_request_wait d a = 2 ^ GREATEST_EXPONENT * (a.config.c1 + a.config.c2) * d

abbrev pub longest_repair_wait : ℕ → Start → ℕ
longest_repair_wait d a = (a.config.d1 + a.config.d2) * d

-- Waits: the greatest distance bounds how long the timers of all members wait, and how long their hold-offs last.
abbrev pub WaitsLaw : Type 0
WaitsLaw = (t : Trace) (p : Timing) (d m to : ℕ) (n : FullName) → IsRun t → AllByRecursion (NearAtMost t.entries d) t.starts
    → WaitsAtMost t p Ask m n to (greatest (map (longest_request_wait d) t.starts)) × WaitsAtMost t p Fix m n to (greatest (map (longest_repair_wait d) t.starts))
    × HoldsOffAtMost t m (HOLD_OFF * d)
