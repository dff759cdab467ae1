-- A network that delivers among some members connects each two of them.
use Rattle.std.proofs.Common.{◌≡◌, ◌≢◌, ℕ, ◌+◌, ◌-◌, ◌≤◌, Bool, true, refl, sym, subst, arith, inl, inr}
use Rattle.std.proofs.lemmas.Bool.{cases_eq}
use Rattle.srm_codec.specs.declared.datagram.Datagram.{Datagram}
use Rattle.srm_world.specs.Traces.{Trace}
use Rattle.srm_recovery.specs.Timing.{Timing, time_of}
use Rattle.srm_recovery.specs.Members.{AcceptsWithin, SendsWithin}
use Rattle.srm_recovery.specs.Network.{Carries, ComesToBoth, requests, repairs}
use Rattle.srm_recovery.specs.Delivering.{Delivers, DeliveringLaw}

carried : (t : Trace) (p : Timing) (among : ℕ → Bool) (from to m k : ℕ) → Delivers t p among from to → among m ≡ true → among k ≡ true → m ≢ k → (kind : Datagram → Bool) → Carries (AcceptsWithin t p) t p kind m k from to
carried t p among from to m k good pm pk other kind h g is sent limit = good.delivers m k pm pk other h g refl sent limit

shared : (t : Trace) (p : Timing) (among : ℕ → Bool) (from to m k : ℕ) → Delivers t p among from to → among m ≡ true → among k ≡ true → (kind : Datagram → Bool) → ComesToBoth (AcceptsWithin t p) t p kind m k from to
shared t p among from to m k good pm pk kind h g is accepts limit =
    let (j, pj, sends) = good.fresh m pm h g accepts in
    let (s, sent) = sends in
    let low : from + p.delay ≤ p.clock m + h.this.moment = h.not_before in
    let s_low = s.not_before in
    let s_high : p.clock j + s.this.moment ≤ p.clock m + h.this.moment = s.not_after in
    elim (cases_eq j k) [
      | inl same ↦ inl (subst (λ w. SendsWithin t p w g (time_of p m h.this - p.delay) (time_of p m h.this)) same
          (record { before = s.before; this = s.this; after = s.after; split = s.split; not_before = omega arith; not_after = omega arith }, sent))
      | inr other ↦ (let (a, gets) = good.delivers j k pj pk other (record { before = s.before; this = s.this; after = s.after; split = s.split; not_before = omega arith; not_after = omega arith }) g refl sent (omega arith) in
          let a_low : p.clock j + s.this.moment ≤ p.clock k + a.this.moment = a.not_before in
          let a_high : p.clock k + a.this.moment ≤ p.clock j + s.this.moment + p.delay = a.not_after in
          inr (record { before = a.before; this = a.this; after = a.after; split = a.split; not_before = omega arith; not_after = omega arith }, gets))
    ]

pub delivering_law : DeliveringLaw
delivering_law t p among from to m k good pm pk other = (
  λ n. (record {
    asker = good.keep_up m pm;
    holder = good.keep_up k pk;
    asked = record { sent = carried t p among from to m k good pm pk other (requests n); heard = shared t p among from to m k good pm pk (requests n) };
    repaired = record { sent = carried t p among from to k m good pk pm (λ same. other (sym same)) (repairs n); heard = shared t p among from to k m good pk pm (repairs n) };
    repair_wait = good.repair_wait k n pk;
    hold_off = good.hold_off k pk;
  }),
  carried t p among from to k m good pk pm (λ same. other (sym same)) _,
)
