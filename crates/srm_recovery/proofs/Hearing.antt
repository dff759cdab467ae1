-- Who hears accepts, in an honest run with slots.
use Rattle.std.proofs.Common.{◌≡◌, ℕ, ◌+◌, ◌-◌, ◌≤◌, [], ◌∷◌, ◌++◌, ap, sym, ◌∙◌, arith, inl, inr, append_assoc, Bool}
use Rattle.srm_codec.specs.declared.datagram.Datagram.{Datagram}
use Rattle.srm_entries.specs.declared.entry.Verdict.TheVariants.{Done}
use Rattle.srm_entries.specs.Entries.{done_input, heard_in}
use Rattle.srm_world.specs.Traces.{Trace, of_member, IsRun, IsHonest}
use Rattle.srm_world.proofs.Members.{of_member-append, of_member-own}
use Rattle.srm_recovery.specs.Timing.{Timing, time_of}
use Rattle.srm_recovery.specs.Members.{AcceptsWithin}
use Rattle.srm_recovery.specs.Network.{Carries, ComesToBoth, Reaches}
use Rattle.srm_recovery.specs.Hearing.{HearsWithin, HearingLaw}
use Rattle.srm_recovery.proofs.Ignoring.{accepting_law}

hearing : (t : Trace) (p : Timing) → IsRun t → IsHonest t.entries → (m : ℕ) (g : Datagram) (from to : ℕ) → HearsWithin t p m g from to → AcceptsWithin t p m g from to
hearing t p run honest m g from to h =
    let is_done = accepting_law t h.before h.after h.this g run honest h.split h.input h.was_sent h.of_another h.slots in
    let low : from ≤ p.clock m + h.this.moment = h.not_before in
    let high = h.not_after in
    let own : of_member m t.entries ≡ of_member m h.before ++ h.this ∷ of_member m h.after =
    ap (of_member m) (h.split ∙ sym (append_assoc h.before (h.this ∷ []) h.after)) ∙ of_member-append m (h.before ++ h.this ∷ []) h.after
    ∙ ap (λ w. w ++ of_member m h.after) (of_member-own m h.before h.this h.member) ∙ append_assoc (of_member m h.before) (h.this ∷ []) (of_member m h.after) in (
      record { before = of_member m h.before; this = h.this; after = of_member m h.after; split = own; not_before = low; not_after = omega arith },
      ap (λ v. heard_in (done_input v h.this.input)) is_done ∙ ap (λ i. heard_in (done_input Done i)) h.input,
    )

carried : (t : Trace) → IsRun t → IsHonest t.entries → (p : Timing) (kind : Datagram → Bool) (m k from to : ℕ) → Carries (HearsWithin t p) t p kind m k from to → Carries (AcceptsWithin t p) t p kind m k from to
carried t run honest p kind m k from to c h g is sent limit = hearing t p run honest k g (time_of p m h.this) (time_of p m h.this + p.delay) (c h g is sent limit)

shared : (t : Trace) → IsRun t → IsHonest t.entries → (p : Timing) (kind : Datagram → Bool) (m k from to : ℕ) → ComesToBoth (HearsWithin t p) t p kind m k from to → ComesToBoth (AcceptsWithin t p) t p kind m k from to
shared t run honest p kind m k from to c h g is accepts limit = elim (c h g is accepts limit) [
  | inl sends ↦ inl sends
  | inr hears ↦ inr (hearing t p run honest k g (time_of p m h.this - p.delay) (time_of p m h.this + p.delay) hears)
]

reached : (t : Trace) → IsRun t → IsHonest t.entries → (p : Timing) (kind : Datagram → Bool) (m k from to : ℕ) → Reaches (HearsWithin t p) t p kind m k from to → Reaches (AcceptsWithin t p) t p kind m k from to
reached t run honest p kind m k from to r = record { sent = carried t run honest p kind m k from to r.sent; heard = shared t run honest p kind m k from to r.heard }

pub hearing_law : HearingLaw
hearing_law t p m k from to run honest = record {
  accepts = λ g h. hearing t p run honest m g from to h;
  connects = λ n c. (record {
    asker = c.asker;
    holder = c.holder;
    asked = reached t run honest p _ m k from to c.asked;
    repaired = reached t run honest p _ k m from to c.repaired;
    repair_wait = c.repair_wait;
    hold_off = c.hold_off;
  });
  tells = λ page interval s. (record { shows = s.shows; due = s.due; carried = carried t run honest p _ k m from to s.carried });
}
