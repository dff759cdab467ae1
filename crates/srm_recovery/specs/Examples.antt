-- The definitions at worked numbers and on a run of two members: one draws, and the other one, whose clock began later, hears it.
use Rattle.std.specs.Prelude.{◌≡◌, ℕ, ◌==◌, true, false, [], ◌∷◌, if◌then◌else◌, refl}
use Rattle.std.proofs.Common.{lit<, lit≤}
use Rattle.srm_names.specs.FullName.{FullName}
use Rattle.srm_names.specs.Names.{named}
use Rattle.srm_codec.specs.declared.datagram.Datagram.{Datagram}
use Rattle.srm_codec.specs.declared.datagram.Datagram.TheVariants.{Data, Request, Repair}
use Rattle.srm_codec.specs.Spelling.{bits_set}
use Rattle.srm_bucket.specs.declared.class.Class.TheVariants.{New}
use Rattle.srm_entries.specs.Sample.{in_roster, first_stream, first_drawop, draws, hears, ticks}
use Rattle.srm_world.specs.declared.start.Start.{Start}
use Rattle.srm_world.specs.Traces.{Trace}
use Rattle.srm_recovery.specs.Timing.{Timing, settling_time, repair_time, sharing_time}
use Rattle.srm_recovery.specs.Members.{EntryWithin, TicksWithin, SendsWithin, AcceptsWithin, EmptiesWithin, nothing_waits, HoldsBy, KnowsBy, KnowsManyBy, ReleasesBy}
use Rattle.srm_recovery.specs.Network.{requests, repairs}
use Rattle.srm_recovery.specs.Emptying.{price, gone_by}
use Rattle.srm_recovery.specs.Reporting.{longest_interval}
use Rattle.srm_recovery.specs.Waits.{longest_request_wait, longest_repair_wait}

-- Members are 50 ms apart, with the default waits. The network takes up to 60 ms. Each ticks, and empties its bucket, each 10 ms. A hold-off may last 300 ms: before it heard an echo, a member
-- takes another one to be 100 ms away.
abbrev far : Timing
far = record { clock = λ m. 0; delay = 60000; tick = 10000; emptying = 10000; repair_wait = 100000; hold_off = 300000 }

abbrev member : ℕ → ℕ → Start
member members me = record { config = in_roster me members 4204; made = 0 }

far_settles : settling_time far ≡ 420000
far_settles = refl

far_repairs : repair_time far 200000 ≡ 460000
far_repairs = refl

far_repairs_last : repair_time far (longest_request_wait 50000 (member 2 0)) ≡ 51460000
far_repairs_last = refl

far_shares : sharing_time far 1000000 200000 ≡ 1530000
far_shares = refl

-- On a LAN distances count as 5 ms, as with `--live`, and the network takes up to a millisecond.
abbrev near : Timing
near = record { clock = λ m. 0; delay = 1000; tick = 10000; emptying = 10000; repair_wait = longest_repair_wait 5000 (member 2 0); hold_off = 300000 }

near_settles : settling_time near ≡ 302000
near_settles = refl

near_repairs : repair_time near 20000 ≡ 72000
near_repairs = refl

near_repairs_last : repair_time near (longest_request_wait 5000 (member 2 0)) ≡ 5172000
near_repairs_last = refl

near_shares : sharing_time near 1000000 20000 ≡ 1083000
near_shares = refl

-- session messages of 56 bytes between two members, and of 806 among 32
two_report : longest_interval (in_roster 0 2 4204) 56 ≡ 1000000
two_report = refl

many_report : longest_interval (in_roster 0 32 4204) 806 ≡ 64480000
many_report = refl

-- A run: member 0 draws, and sends the datum at its next tick, 3 microseconds after its clock began. Member 1's clock begins 5 microseconds later than that of member 0, and at 10 by it
-- the datum arrives: 12 microseconds after it was sent.

abbrev one : FullName
one = named first_stream 1

abbrev datum : Datagram
datum = Data first_drawop

abbrev t : Trace
t = record { starts = member 2 0 ∷ member 2 1 ∷ []; entries = draws 0 1 first_drawop ∷ ticks 0 3 [] [] [] (datum ∷ []) ∷ hears 1 10 datum [] ∷ [] }

abbrev p : Timing
p = record { clock = λ m. if m == 1 then 5 else 0; delay = 12; tick = 3; emptying = 3; repair_wait = 0; hold_off = 0 }

abbrev tick_0 : EntryWithin t p 0 3 3
tick_0 = record { before = draws 0 1 first_drawop ∷ []; this = ticks 0 3 [] [] [] (datum ∷ []); after = []; split = refl; not_before = lit≤ tt; not_after = lit≤ tt }

abbrev heard_1 : EntryWithin t p 1 0 15
heard_1 = record { before = []; this = hears 1 10 datum []; after = []; split = refl; not_before = lit≤ tt; not_after = lit≤ tt }

ticks_0 : TicksWithin t p 0 3 3
ticks_0 = (tick_0, refl)

sends_0 : SendsWithin t p 0 datum 3 3
sends_0 = (tick_0, (0, lit< tt, refl))

empties_0 : EmptiesWithin t p 0 3 3
empties_0 = (tick_0, refl, refl)

accepts_1 : AcceptsWithin t p 1 datum 3 15
accepts_1 = (record { before = []; this = hears 1 10 datum []; after = []; split = refl; not_before = lit≤ tt; not_after = lit≤ tt }, refl)

holds_1 : HoldsBy t p 1 one 15
holds_1 = (heard_1, refl)

knows_1 : KnowsBy t p 1 one 15
knows_1 = (lit≤ tt, heard_1, lit≤ tt)

knows_many_1 : KnowsManyBy t p 1 first_stream 1 15
knows_many_1 = (heard_1, lit≤ tt)

releases_1 : ReleasesBy t p 1 first_stream (first_drawop ∷ []) 15
releases_1 = (heard_1, ([], refl))

-- before the tick the datum waits in the bucket
waits_0 : nothing_waits 0 (draws 0 1 first_drawop ∷ []) ≡ false
waits_0 = refl

-- it costs its 28 bytes, from when it went on
gone_before : gone_by t p 0 2 ≡ 0
gone_before = refl

gone_then : gone_by t p 0 3 ≡ 28000000
gone_then = refl

costs : price (record { class = New; item = record { value = datum; length = 28 } } ∷ []) ≡ 28000000
costs = refl

asks : requests one (Request 1 one 0) ≡ true
unfolding bits_set
asks = refl

asks_for_the_next : requests one (Request 1 (named first_stream 2) 0) ≡ false
unfolding bits_set
asks_for_the_next = refl

mends : repairs one (Repair 0 first_drawop) ≡ true
mends = refl

no_repair : repairs one datum ≡ false
no_repair = refl
