-- No datagram that is handed in is longer than one with the longest body.
use Rattle.std.proofs.Common.{◌≡◌, ℕ, ◌==◌, ◌≤◌, Bool, true, false, List, [], ◌∷◌, length, map, refl, sym, ◌∙◌, subst, arith, inl, inr}
use Rattle.std.specs.Prelude.{Option, Some, None, IfSome, option_map, option_to_list, nat_lt, nat_le, if◌then◌else◌}
use Rattle.std.specs.List.{filter_map, cons_option, AllByRecursion}
use Rattle.std.proofs.lemmas.Bool.Decides.{nat_tests}
use Rattle.srm_names.specs.declared.limits.TheConstants.{LONGEST_BODY, DRAWOPS}
use Rattle.srm_names.specs.declared.drawop.Drawop.{Drawop}
use Rattle.srm_names.specs.declared.page.Page.{Page}
use Rattle.srm_names.specs.FullName.{FullName}
use Rattle.srm_names.specs.Names.{stream_on}
use Rattle.srm_names.specs.Histories.{Step, steps}
use Rattle.srm_names.proofs.Lists.{Has, Has-append, Has-map, Has-flat_map, Has-split, Has-step_split, Has-contained, All-Has, at_parts, find-Has}
use Rattle.srm_codec.specs.declared.datagram.Datagram.{Datagram}
use Rattle.srm_codec.specs.declared.datagram.Datagram.TheVariants.{Data, Request, Repair, Session}
use Rattle.srm_codec.specs.Spelling.{length_of, IsSpellable}
use Rattle.srm_bucket.specs.declared.limits.TheConstants.{GREATEST_LENGTH}
use Rattle.srm_bucket.specs.Calls.{Classed}
use Rattle.srm_store.specs.Held.{has_name}
use Rattle.srm_entries.specs.Configs.{Config}
use Rattle.srm_entries.specs.declared.entry.Entry.{Entry}
use Rattle.srm_entries.specs.declared.entry.Input.{Input}
use Rattle.srm_entries.specs.declared.entry.Input.TheVariants.{Drew, Heard, Noise, Ticked, Showed, AskedLeave, Gave, Took}
use Rattle.srm_entries.specs.declared.entry.Verdict.{Verdict}
use Rattle.srm_entries.specs.declared.entry.Verdict.TheVariants.{Done, Refused}
use Rattle.srm_entries.specs.declared.fault.AgentFault.{AgentFault}
use Rattle.srm_entries.specs.declared.fault.AgentFault.TheVariants as faults
use Rattle.srm_entries.specs.Entries.{done, accepted, state, is_gone, is_leaving, held, held_by, held_at, drawops_in, shown}
use Rattle.srm_entries.specs.Verdicts.{VerdictRight, first_cause, lacks_slots_for, drawn_in}
use Rattle.srm_entries.specs.Packing.{is_covered_by, mask_of, packed_after, packed}
use Rattle.srm_entries.specs.Bucket.{data_item, due_item, repair_for, requests_and_repairs, handed_in_by}
use Rattle.srm_entries.specs.Rates.{handed_so_far}
use Rattle.srm_entries.specs.Runs.{EntryRight, expected_drawop}
use Rattle.srm_entries.proofs.Showing.{done_is}
use Rattle.srm_world.specs.Traces.{IsRunOfMember}
use Rattle.srm_recovery.specs.Lengths.{LengthLaw}
use Rattle.srm_recovery.proofs.Ordering.{right_at}
use Rattle.srm_recovery.proofs.Draining.{handed_length}

-- bodies

body_fits : (f g h : AgentFault) (a b x : Bool) (rest : List (Bool × Verdict)) → Done ≡ first_cause ((a, Refused f) ∷ (b, Refused g) ∷ (x, Refused h) ∷ rest) → x ≡ false
body_fits f g h false false false rest e = refl
body_fits f g h false false true rest e = absurd (cc)
body_fits f g h false true x rest e = absurd (cc)
body_fits f g h true b x rest e = absurd (cc)

within : (n : ℕ) → nat_lt LONGEST_BODY n ≡ false → n ≤ LONGEST_BODY
within n e = grind (arith, nat_tests)

drawn_short : (c : Config) (made : ℕ) (before : List Entry) (e : Entry) (d : Drawop) → EntryRight c made (record { before = before; this = e }) → e.effects.drawn ≡ Some d → length d.body ≤ LONGEST_BODY
drawn_short c made before e d r q = go (done e) refl (sym r.drawn ∙ q)
  where
    others : Page → List (Bool × Verdict)
    others page = (lacks_slots_for before (page ∷ []), Refused faults.PageLimit) ∷ (nat_le DRAWOPS (drawn_in before (stream_on c.me page)), Refused faults.StreamFull) ∷ []

    go : (o : Option Input) → done e ≡ o → expected_drawop c before e.moment o ≡ Some d → length d.body ≤ LONGEST_BODY
    go None p k = absurd (cc)
    go (Some (Drew page body)) p k =
        let is = done_is e.verdict e.input (Drew page body) p in
        let fine : VerdictRight c before (Drew page body) Done = subst (λ j. VerdictRight c before j Done) is.1 (subst (λ w. VerdictRight c before e.input w) is.0 r.verdict) in
        let fits : nat_lt LONGEST_BODY (length body) ≡ false = body_fits faults.Gone faults.Leaving faults.BodyLong (is_gone (state before)) (is_leaving (state before)) (nat_lt LONGEST_BODY (length body)) (others page) fine in
        let same : body ≡ d.body = cc in
        subst (λ w. length w ≤ LONGEST_BODY) same (within (length body) fits)
    go (Some (Heard g)) p k = absurd (cc)
    go (Some Noise) p k = absurd (cc)
    go (Some Ticked) p k = absurd (cc)
    go (Some (Showed page)) p k = absurd (cc)
    go (Some AskedLeave) p k = absurd (cc)
    go (Some (Gave slot)) p k = absurd (cc)
    go (Some (Took slot)) p k = absurd (cc)

heard_short : (o : Option Datagram) (d : Drawop) → IfSome o IsSpellable → Has d (drawops_in o) → length d.body ≤ LONGEST_BODY
heard_short None d s h = absurd h
heard_short (Some (Data x)) d s (inl q) = subst (λ (y : Drawop). length y.body ≤ LONGEST_BODY) (sym q) s.2
heard_short (Some (Data x)) d s (inr f) = absurd f
heard_short (Some (Request from first mask)) d s h = absurd h
heard_short (Some (Repair from x)) d s (inl q) = subst (λ (y : Drawop). length y.body ≤ LONGEST_BODY) (sym q) s.1.2
heard_short (Some (Repair from x)) d s (inr f) = absurd f
heard_short (Some (Session from at farewell page rows echoes)) d s h = absurd h

held_short : (c : Config) (made : ℕ) (es : List Entry) → AllByRecursion (EntryRight c made) (steps es) → (d : Drawop) → Has d (held es) → length d.body ≤ LONGEST_BODY
held_short c made es all d h =
    let (e, k, o) = Has-flat_map held_by d es h in
    let (one, two, q) = Has-split e es k in
    let r = right_at c made es one two e all q in
    elim (Has-append d (option_to_list e.effects.drawn) (drawops_in (accepted e)) o) [
      | inl l ↦ of_drawn e one r e.effects.drawn refl l
      | inr l ↦ heard_short (accepted e) d r.read l
    ]
  where
    of_drawn : (e : Entry) (one : List Entry) → EntryRight c made (record { before = one; this = e }) → (o : Option Drawop) → e.effects.drawn ≡ o → Has d (option_to_list o) → length d.body ≤ LONGEST_BODY
    of_drawn e one r None p l = absurd l
    of_drawn e one r (Some x) p (inl q) = subst (λ (y : Drawop). length y.body ≤ LONGEST_BODY) (sym q) (drawn_short c made one e x r p)
    of_drawn e one r (Some x) p (inr f) = absurd f

-- datagrams

request_short : (s mask : ℕ) (n : FullName) → length_of (Request s n mask) ≤ GREATEST_LENGTH
request_short s mask n = go (mask == 0)
  where
    go : (b : Bool) → (if b then 17 else 21) ≤ GREATEST_LENGTH
    go true = omega arith
    go false = omega arith

packed_short : (me : ℕ) (last : Option FullName) (ns : List FullName) (g : Datagram) → Has g (packed_after me last ns) → length_of g ≤ GREATEST_LENGTH
packed_short me last [] g h = absurd h
packed_short me last (n ∷ ns) g h = go (is_covered_by last n) h (packed_short me last ns g) (packed_short me (Some n) ns g)
  where
    go : (b : Bool) → Has g (if b then packed_after me last ns else Request me n (mask_of n ns) ∷ packed_after me (Some n) ns)
        → (Has g (packed_after me last ns) → length_of g ≤ GREATEST_LENGTH) → (Has g (packed_after me (Some n) ns) → length_of g ≤ GREATEST_LENGTH) → length_of g ≤ GREATEST_LENGTH
    go true k skip on = skip k
    go false (inl q) skip on = subst (λ w. length_of w ≤ GREATEST_LENGTH) (sym q) (request_short me (mask_of n ns) n)
    go false (inr k) skip on = on k

repairs_short : (me : ℕ) (es : List Entry) → ((d : Drawop) → Has d (held es) → length d.body ≤ LONGEST_BODY) → (ns : List FullName) (g : Datagram) → Has g (filter_map (repair_for me es) ns) → length_of g ≤ GREATEST_LENGTH
repairs_short me es brief [] g h = absurd h
repairs_short me es brief (n ∷ ns) g h = go (held_at es n) refl h (repairs_short me es brief ns g)
  where
    go : (o : Option Drawop) → held_at es n ≡ o → Has g (cons_option (option_map (Repair me) o) (filter_map (repair_for me es) ns)) → (Has g (filter_map (repair_for me es) ns) → length_of g ≤ GREATEST_LENGTH) → length_of g ≤ GREATEST_LENGTH
    go None p k more = more k
    go (Some d) p (inl q) more =
        let l : length d.body ≤ LONGEST_BODY = brief d (find-Has (has_name n) (held es) d p).0 in
        subst (λ w. length_of w ≤ GREATEST_LENGTH) (sym q) (omega (arith, l))
    go (Some d) p (inr k) more = more k

pub length_law : LengthLaw
length_law t a before after i run has q there =
    let its = All-Has (IsRunOfMember t.entries) a t.starts run.each (Has-contained a t.starts has) in
    let all : AllByRecursion (EntryRight a.config a.made) (steps before) =
    (at_parts (EntryRight a.config a.made) before after (subst (λ w. AllByRecursion (EntryRight a.config a.made) (steps w)) q its.each)).0 in
    let (s, k, m) = Has-flat_map (handed_in_by a.config.me) i (steps before) (Has-contained i (handed_so_far a.config.me before) there) in
    let (rest, p) = Has-step_split s [] before k in
    let right : EntryRight a.config a.made (record { before = s.before; this = s.this }) = right_at a.config a.made before s.before rest s.this all p in
    let past : AllByRecursion (EntryRight a.config a.made) (steps s.before) =
    (at_parts (EntryRight a.config a.made) s.before (s.this ∷ rest) (subst (λ w. AllByRecursion (EntryRight a.config a.made) (steps w)) p all)).0 in
    let same : i.item.length ≡ length_of i.item.value = handed_length a.config.me s i m in
    let short : length_of i.item.value ≤ GREATEST_LENGTH =
    elim (Has-append i (data_item s.this.effects.drawn) (map (due_item (shown s.before)) (requests_and_repairs a.config.me s)) m) [
      | inl l ↦ of_data s right s.this.effects.drawn refl l
      | inr r ↦ (let (g, h, e) = Has-map (due_item (shown s.before)) i (requests_and_repairs a.config.me s) r in
          subst (λ (j : Classed Datagram). length_of j.item.value ≤ GREATEST_LENGTH) (sym e) (elim (Has-append g (packed a.config.me s.this.effects.asks) (filter_map (repair_for a.config.me s.before) s.this.effects.fixes) h) [
            | inl l ↦ packed_short a.config.me None s.this.effects.asks g l
            | inr l ↦ repairs_short a.config.me s.before (held_short a.config a.made s.before past) s.this.effects.fixes g l
          ]))
    ] in
    omega (arith, same, short)
  where
    of_data : (s : Step Entry) → EntryRight a.config a.made (record { before = s.before; this = s.this }) → (o : Option Drawop) → s.this.effects.drawn ≡ o → Has i (data_item o) → length_of i.item.value ≤ GREATEST_LENGTH
    of_data s r None p l = absurd l
    of_data s r (Some d) p (inl e) =
        let l : length d.body ≤ LONGEST_BODY = drawn_short a.config a.made s.before s.this d r p in
        subst (λ (j : Classed Datagram). length_of j.item.value ≤ GREATEST_LENGTH) (sym e) (omega (arith, l))
    of_data s r (Some d) p (inr f) = absurd f
