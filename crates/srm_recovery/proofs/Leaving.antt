-- Who leaves when others hold what it drew takes nothing away.
use Rattle.std.proofs.Common.{◌≡◌, ℕ, ◌+◌, ◌<◌, true, [], ◌∷◌, length, sym, subst, arith, inl, inr, false, ◌≤◌, ◌-◌}
use Rattle.std.proofs.lemmas.List.{append-nil}
use Rattle.srm_names.specs.FullName.{FullName}
use Rattle.srm_names.specs.Names.{named, stream_on}
use Rattle.srm_entries.specs.Entries.{is_gone, is_held, state}
use Rattle.srm_entries.specs.Timers.{asks_for}
use Rattle.srm_world.specs.Traces.{drawn_by}
use Rattle.srm_recovery.specs.Timing.{repair_time, sharing_time}
use Rattle.srm_recovery.specs.Members.{so_far, HoldsBy}
use Rattle.srm_recovery.specs.Leaving.{IsKept, KeepingLaw, LeavingLaw, SilenceLaw}
use Rattle.srm_recovery.proofs.Ordering.{Own, own_of}
use Rattle.srm_recovery.proofs.Asking.{asks_in_time, present_at, held_more, true_false}
use Rattle.srm_recovery.proofs.Sharing.{request_reaches}
use Rattle.srm_recovery.proofs.Recovering.{holds_by_later, recovery_law}
use Rattle.srm_recovery.proofs.Telling.{sharing_law}
use Rattle.srm_recovery.proofs.Reading.{drew_holds, releases, releases_by_later, some_entry}

pub keeping_law : KeepingLaw
keeping_law t p from now to m source page longest run honest kept waits settled limit (h, knows) =
    releases_by_later t p m (stream_on source page) (drawn_by t.entries source page) (now + repair_time p longest) _ (omega arith)
    (releases t p run honest m source page (drawn_by t.entries source page) (now + repair_time p longest) ([], append-nil (drawn_by t.entries source page))
    (let l = h.not_after in record { before = h.before; this = h.this; after = h.after; split = h.split; not_before = h.not_before; not_after = omega arith }) each)
  where
    each : (j : ℕ) → j < length (drawn_by t.entries source page) → HoldsBy t p m (named (stream_on source page) (1 + j)) (now + repair_time p longest)
    each j l = go (kept (1 + j) (omega arith) (omega arith))
      where
        go : IsKept t p (named (stream_on source page) (1 + j)) m from to → HoldsBy t p m (named (stream_on source page) (1 + j)) (now + repair_time p longest)
        go (inl own) = holds_by_later t p m (named (stream_on source page) (1 + j)) from (now + repair_time p longest) (omega arith) own
        go (inr (k, good, holds)) =
            recovery_law t p from now to m k (named (stream_on source page) (1 + j)) longest run good (waits (1 + j)) (omega arith) (omega arith) holds (omega arith, h, omega (arith, knows, l))

pub leaving_law : LeavingLaw
leaving_law t p interval request_wait from left to m k source page run honest h all near stays far limit =
    releases_by_later t p m (stream_on source page) (drawn_by t.entries source page) end _ (omega arith)
    (releases t p run honest m source page (drawn_by t.entries source page) end ([], append-nil (drawn_by t.entries source page)) (some_entry t p m left to end (far.connected 0).asker (omega arith) (omega arith)) each)
  where
    end : ℕ
    end = left + sharing_time p interval request_wait

    o : Own t source
    o = own_of t source run (near.connected 0).holder.stays.inside

    each : (j : ℕ) → j < length (drawn_by t.entries source page) → HoldsBy t p m (named (stream_on source page) (1 + j)) end
    each j l =
        let n : FullName = named (stream_on source page) (1 + j) in
        let here : is_held (so_far h) n ≡ true = drew_holds t p source o page 0 from h j (subst (λ w. j < length w) (sym all) l) in
        let one : HoldsBy t p k n (from + sharing_time p interval request_wait) =
        sharing_law t p interval request_wait from left k source n run (near.connected (1 + j)) near.told (near.waits (1 + j)) (omega arith) (omega arith) (h, here) in
        sharing_law t p interval request_wait left to m k n run (far.connected (1 + j)) far.told (far.waits (1 + j)) (omega arith) (omega arith)
        (holds_by_later t p k n (from + sharing_time p interval request_wait) left (omega arith) one)

-- who misses a name asks for it, or hears another one ask, and a holder hears that
pub silence_law : SilenceLaw
silence_law t p from now to m k n longest run good waits settled limit holds knows silent =
    let om : Own t m = own_of t m run good.asker.stays.inside in
    let ok : Own t k = own_of t k run good.holder.stays.inside in
    let (tick, ticks) = good.asker.ticks (now + longest) (omega arith) (omega arith) in
    let tick_high : p.clock m + tick.this.moment ≤ now + longest + p.tick = tick.not_after in
    let here : is_gone (state tick.before) ≡ false = present_at t p m om (now + longest + 1) to good.asker.stays
    (record { before = tick.before; this = tick.this; after = tick.after; split = tick.split; not_before = tick.not_before; not_after = omega arith }) in
    elim (asks_in_time t p m om n now longest (now + longest + p.tick) waits knows tick here ticks) [
      | inl held ↦ (record { before = tick.before; this = tick.this; after = tick.after; split = tick.split; not_before = omega arith; not_after = omega arith }, held_more tick.before (tick.this ∷ []) n held)
      | inr x ↦ (let x_low : now + 1 ≤ p.clock m + x.at.this.moment = x.at.not_before in
          let x_high : p.clock m + x.at.this.moment ≤ now + longest + p.tick = x.at.not_after in
          let (h, asks) = request_reaches t p from to (now + 1 - p.delay) (now + longest + p.tick) m k n om ok good.asker good.holder good.asked (omega arith) (omega arith)
          (record { at = record { before = x.at.before; this = x.at.this; after = x.at.after; split = x.at.split; not_before = omega arith; not_after = omega arith }; does = x.does }) holds in
          let low : now + 1 - p.delay ≤ p.clock k + h.this.moment = h.not_before in
          let high : p.clock k + h.this.moment ≤ now + longest + p.tick + p.emptying + p.delay = h.not_after in
          absurd (true_false (asks_for n h.this) asks (silent (record { before = h.before; this = h.this; after = h.after; split = h.split; not_before = omega arith; not_after = omega arith }))))
    ]
