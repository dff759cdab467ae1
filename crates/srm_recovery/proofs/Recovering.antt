-- The law of recovery.
use Rattle.std.proofs.Common.{◌≡◌, ℕ, ◌+◌, ◌-◌, ◌≤◌, true, false, [], ◌∷◌, refl, arith, inl, inr}
use Rattle.srm_names.specs.FullName.{FullName}
use Rattle.srm_timers.specs.declared.arm.ArmKind.TheVariants.{Ask}
use Rattle.srm_entries.specs.Entries.{state, is_gone, is_held}
use Rattle.srm_entries.specs.Timers.{asks_for}
use Rattle.srm_world.specs.Traces.{Trace, of_member}
use Rattle.srm_recovery.specs.Timing.{Timing, settling_time, repair_time, time_of}
use Rattle.srm_recovery.specs.Members.{EntryWithin, AcceptsWithin, WaitsAtMost, KnowsBy, HoldsBy}
use Rattle.srm_recovery.specs.Network.{Connects}
use Rattle.srm_recovery.specs.Recovery.{RecoveryLaw}
use Rattle.srm_recovery.proofs.Ordering.{Own, own_of}
use Rattle.srm_recovery.proofs.Asking.{asks_in_time, asking_moves, held_more, present_at}
use Rattle.srm_recovery.proofs.Repairing.{Repairs, repairs_in_time, repairing_moves}
use Rattle.srm_recovery.proofs.Sharing.{held_later, repair_reaches, request_reaches}
use Rattle.srm_recovery.proofs.Ordering.{right_at}

-- earlier is by a later moment too
pub holds_by_later : (t : Trace) (p : Timing) (m : ℕ) (n : FullName) (now later : ℕ) → now ≤ later → HoldsBy t p m n now → HoldsBy t p m n later
holds_by_later t p m n now later l (h, held) = let a : p.clock m + h.this.moment ≤ now = h.not_after in
    (record { before = h.before; this = h.this; after = h.after; split = h.split; not_before = h.not_before; not_after = omega arith }, held)

-- a request that a holder heard is answered in time
answered : (t : Trace) (p : Timing) (from to m k : ℕ) (n : FullName) → Connects (AcceptsWithin t p) t p n m k from to → Own t m → (ok : Own t k) → HoldsBy t p k n from
    → (low lim late : ℕ) → from + p.delay + 1 + p.hold_off ≤ low → late ≡ lim + p.repair_wait + p.tick → late + p.emptying + p.delay ≤ to
    → (h : EntryWithin t p k low lim) → asks_for n h.this ≡ true → HoldsBy t p m n (late + p.emptying + p.delay)
answered t p from to m k n good om ok holds low lim late start e limit h asks =
    let h_low : low ≤ p.clock k + h.this.moment = h.not_before in
    let h_high : p.clock k + h.this.moment ≤ lim = h.not_after in
    let (tick, ticks) = good.holder.ticks (time_of p k h.this + p.repair_wait) (omega arith) (omega arith) in
    let tick_high : p.clock k + tick.this.moment ≤ p.clock k + h.this.moment + p.repair_wait + p.tick = tick.not_after in
    let was : is_held h.before n ≡ true = held_later t p k ok n from to holds (record { before = h.before; this = h.this; after = h.after; split = h.split; not_before = omega arith; not_after = omega arith })
    (asking_moves ok.start.made h.before h.this n asks) in
    let at : EntryWithin t p k (time_of p k h.this + p.repair_wait + 1) late = record { before = tick.before; this = tick.this; after = tick.after; split = tick.split; not_before = tick.not_before; not_after = omega arith } in
    let here : is_gone (state tick.before) ≡ false = present_at t p k ok (time_of p k h.this + p.repair_wait + 1) to good.holder.stays
    (record { before = tick.before; this = tick.this; after = tick.after; split = tick.split; not_before = tick.not_before; not_after = omega arith }) in
    let r : Repairs t p k n (from + p.delay + 1) late = repairs_in_time t p k ok n (from + p.delay + 1) p.repair_wait p.hold_off late to (omega arith) good.repair_wait good.hold_off
    (record { before = h.before; this = h.this; after = h.after; split = h.split; not_before = omega arith; not_after = omega arith }) asks was at here ticks in
    let r_low : from + p.delay + 1 ≤ p.clock k + r.at.this.moment = r.at.not_before in
    let r_high : p.clock k + r.at.this.moment ≤ late = r.at.not_after in
    let moves = repairing_moves ok.start.config ok.start.made r.at.before r.at.this n (right_at ok.start.config ok.start.made (of_member k t.entries) r.at.before r.at.after r.at.this ok.run.each r.at.split) r.does in
    let held : is_held r.at.before n ≡ true = held_later t p k ok n from to holds (record { before = r.at.before; this = r.at.this; after = r.at.after; split = r.at.split; not_before = omega arith; not_after = omega arith }) moves in
    repair_reaches t p from to late m k n om ok good.holder good.repaired
    (record { at = record { before = r.at.before; this = r.at.this; after = r.at.after; split = r.at.split; not_before = omega arith; not_after = r_high }; does = r.does }) held limit

-- the parts of the time
apart : (t : Trace) (p : Timing) (from now to m k : ℕ) (n : FullName) (longest : ℕ) → Connects (AcceptsWithin t p) t p n m k from to → (om : Own t m) → (ok : Own t k)
    → from + settling_time p ≤ now → now + repair_time p longest ≤ to → WaitsAtMost t p Ask m n now longest → HoldsBy t p k n from → KnowsBy t p m n now
    → (lim next late low : ℕ) → lim ≡ now + longest + p.tick → next ≡ lim + p.emptying + p.delay → late ≡ next + p.repair_wait + p.tick → low + p.delay ≡ now + 1
    → HoldsBy t p m n (now + repair_time p longest)
apart t p from now to m k n longest good om ok settled limit waits holds knows lim next late low lim_is next_is late_is low_is =
    let (tick, ticks) = good.asker.ticks (now + longest) (omega arith) (omega arith) in
    let tick_high : p.clock m + tick.this.moment ≤ now + longest + p.tick = tick.not_after in
    let here : is_gone (state tick.before) ≡ false = present_at t p m om (now + longest + 1) to good.asker.stays
    (record { before = tick.before; this = tick.this; after = tick.after; split = tick.split; not_before = tick.not_before; not_after = omega arith }) in
    elim (asks_in_time t p m om n now longest lim waits knows
    (record { before = tick.before; this = tick.this; after = tick.after; split = tick.split; not_before = tick.not_before; not_after = omega arith }) here ticks) [
      | inl held ↦ (record { before = tick.before; this = tick.this; after = tick.after; split = tick.split; not_before = omega arith; not_after = omega arith }, held_more tick.before (tick.this ∷ []) n held)
      | inr x ↦ (let x_low : now + 1 ≤ p.clock m + x.at.this.moment = x.at.not_before in
          let (h, asks) = request_reaches t p from to low lim m k n om ok good.asker good.holder good.asked (omega arith) (omega arith)
          (record { at = record { before = x.at.before; this = x.at.this; after = x.at.after; split = x.at.split; not_before = omega arith; not_after = x.at.not_after }; does = x.does }) holds in
          holds_by_later t p m n (late + p.emptying + p.delay) (now + repair_time p longest) (omega arith)
          (answered t p from to m k n good om ok holds low (lim + p.emptying + p.delay) late (omega arith) (omega arith) (omega arith) h asks))
    ]

pub recovery_law : RecoveryLaw
recovery_law t p from now to m k n longest run good waits settled limit holds knows =
    apart t p from now to m k n longest good (own_of t m run good.asker.stays.inside) (own_of t k run good.holder.stays.inside) (omega arith) (omega arith) waits holds knows
    (now + longest + p.tick) (now + longest + p.tick + p.emptying + p.delay) (now + longest + p.tick + p.emptying + p.delay + p.repair_wait + p.tick) (now + 1 - p.delay) refl refl refl (omega arith)
