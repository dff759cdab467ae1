-- Records of all members of a run are in order by member in one way, and what is told of each member is what its journal has there.
use Rattle.std.proofs.Common.{◌≡◌, ◌≢◌, ℕ, zero, suc, ◌==◌, ◌≤◌, ◌<◌, List, [], ◌∷◌, length, map, refl, ap, sym, ◌∙◌, subst, inl, inr, arith}
use Rattle.std.specs.Prelude.{Option, Some, None, option_map, unwrap_or, slice_get, Contains}
use Rattle.std.specs.List.{AllByRecursion, swap}
use Rattle.std.specs.List.Sorted.{IsPermutation}
use Rattle.std.proofs.lemmas.Bool.{eqb-true}
use Rattle.std.proofs.lemmas.List.{length-map}
use Rattle.std.proofs.lemmas.List.Sorted.{IsPermutation-refl, IsPermutation-sym, IsPermutation-trans, IsPermutation-swap, Contains-permutation, length_permutation}
use Rattle.std.proofs.lemmas.Option.{slice_get_within}
use Rattle.srm_names.proofs.Lists.{Has, Has-map, map-Has, Has-contained, Has-Contains, Has-slice_get, slice_get-Has, All-Has, find-Has, all_by}
use Rattle.srm_entries.specs.declared.entry.Entry.{Entry}
use Rattle.srm_world.specs.declared.start.Start.{Start}
use Rattle.srm_world.specs.Traces.{Journal, SameSession, IsRoster}
use Rattle.srm_audit.specs.Audits.{InOrder, entries_at}
use Rattle.srm_audit.specs.Rosters.{ArePlaced, AreOneSession}
use Rattle.srm_audit.proofs.Ordering.{start_at, me_at, one_placed, is_roster}
use Rattle.srm_gaps.specs.declared.told.Told.{Told}
use Rattle.srm_gaps.specs.Gaps.{journals_of, IsAnother, AreOfOneSession}
use Rattle.srm_gaps.specs.Possible.{told_of, calls_told}
use Rattle.srm_gaps.proofs.Counting.{AreApart, each_there, no_more}
use Rattle.srm_gaps.proofs.Exactly.{none_told}

-- the member began as one of these
abbrev pub BeganIn : List Start → Told → Type 0
BeganIn starts t = Contains starts t.journal.start

-- what a roster says of a member that began so
pub record IsInRoster (starts : List Start) (t : Told) : Type 0 where
  pub me : t.journal.start.config.me < length starts
  pub members : t.journal.start.config.members ≡ length starts

pub in_roster : (starts : List Start) (t : Told) → IsRoster starts → BeganIn starts t → IsInRoster starts t
in_roster starts t roster began =
    let (k, at) = Has-slice_get t.journal.start starts (Has-contained t.journal.start starts began) in
    let is = start_at starts k t.journal.start roster at in
    let l : k < length starts = slice_get_within starts k t.journal.start at in
    record { me = subst (λ (n : ℕ). n < length starts) (sym is.0) l; members = is.1 }

pub same_session : (starts : List Start) (t u : Told) → IsRoster starts → BeganIn starts t → BeganIn starts u → t.journal.start.config.session ≡ u.journal.start.config.session
same_session starts t u roster began also =
    All-Has (SameSession t.journal.start) u.journal.start starts
    (All-Has (λ (a : Start). AllByRecursion (SameSession a) starts) t.journal.start starts roster.session (Has-contained t.journal.start starts began)) (Has-contained u.journal.start starts also)

-- each member has a record

abbrev members_of : List Told → List ℕ
members_of ts = map (λ (t : Told). t.journal.start.config.me) ts

members_apart : (ts : List Told) → AreOfOneSession ts → AreApart (members_of ts)
members_apart [] apart = tt
members_apart (t ∷ ts) apart = (each ts apart.0, members_apart ts apart.1)
  where
    each : (us : List Told) → AllByRecursion (IsAnother t) us → AllByRecursion (λ (n : ℕ). n ≢ t.journal.start.config.me) (members_of us)
    each [] all = tt
    each (u ∷ us) all = (all.0.other, each us all.1)

members_below : (starts : List Start) (ts : List Told) → IsRoster starts → AllByRecursion (BeganIn starts) ts → AllByRecursion (λ (n : ℕ). n < length starts) (members_of ts)
members_below starts [] roster all = tt
members_below starts (t ∷ ts) roster all = ((in_roster starts t roster all.0).me, members_below starts ts roster all.1)

pub no_more_records : (starts : List Start) (ts : List Told) → IsRoster starts → AllByRecursion (BeganIn starts) ts → AreOfOneSession ts → length ts ≤ length starts
no_more_records starts ts roster all apart =
    subst (λ n. n ≤ length starts) (length-map ts (λ (t : Told). t.journal.start.config.me)) (no_more (length starts) (members_of ts) (members_apart ts apart) (members_below starts ts roster all))

pub each_has_record : (starts : List Start) (ts : List Told) → IsRoster starts → AllByRecursion (BeganIn starts) ts → AreOfOneSession ts → length starts ≤ length ts → (k : ℕ) → k < length starts
    → (t : Told) × Has t ts × (t.journal.start.config.me ≡ k)
each_has_record starts ts roster all apart many k l =
    let there : Has k (members_of ts) = each_there (length starts) (members_of ts) (members_apart ts apart) (members_below starts ts roster all)
    (subst (λ n. length starts ≤ n) (sym (length-map ts (λ (t : Told). t.journal.start.config.me))) many) k l in
    let (t, has, is) = Has-map (λ (t : Told). t.journal.start.config.me) k ts there in
    (t, has, sym is)

-- put in order

Has-permuted : {X : Type 0} (x : X) (xs ys : List X) → IsPermutation xs ys → Has x xs → Has x ys
Has-permuted x xs ys same there = Has-contained x ys (Contains-permutation xs ys x same (Has-Contains x xs there))

-- the journals, those of the first so many members in their places
record PlacedUpTo (js : List Journal) (n : ℕ) : Type 0 where
  now : List Journal
  same : IsPermutation js now
  placed : ArePlaced n now

place_up : (js : List Journal) → ((k : ℕ) → k < length js → (j : Journal) × Has j js × (j.start.config.me ≡ k)) → (n : ℕ) → n ≤ length js → PlacedUpTo js n
place_up js each zero l = record { now = js; same = IsPermutation-refl js; placed = record { each = λ k j lt at. absurd (omega (arith, lt)) } }
place_up js each (suc n) l =
    let before : PlacedUpTo js n = place_up js each n (omega (arith, l)) in
    let (j, there, me) = each n (omega (arith, l)) in
    let (place, at) = Has-slice_get j before.now (Has-permuted j js before.now before.same there) in
    let long : length before.now ≡ length js = length_permutation js before.now before.same in
    let within : place < length before.now = slice_get_within before.now place j at in
    record {
      now = swap before.now n place;
      same = IsPermutation-trans js before.now (swap before.now n place) before.same (IsPermutation-swap before.now (swap before.now n place) n place (omega (arith, long, l)) within refl);
      placed = subst (λ k. ArePlaced k (swap before.now n place)) (omega arith) (one_placed before.now n place (omega (arith, long, l)) before.placed (j, at, me));
    }

-- what holds of each record holds of each journal in order
in_order_all : (P : Journal → Type 0) (ts : List Told) (now : List Journal) → IsPermutation (journals_of ts) now → AllByRecursion (λ (t : Told). P t.journal) ts → (us : List Journal) → ((j : Journal) → Has j us → Has j now) → AllByRecursion P us
in_order_all P ts now same all [] there = tt
in_order_all P ts now same all (u ∷ us) there =
    let (t, has, is) = Has-map (λ (t : Told). t.journal) u ts (Has-permuted u now (journals_of ts) (IsPermutation-sym (journals_of ts) now same) (there u (inl refl))) in (
      subst P (sym is) (All-Has (λ (t : Told). P t.journal) t ts all has),
      in_order_all P ts now same all us (λ j h. there j (inr h)),
    )

-- they are of one session
one_session_in : (starts : List Start) (ts : List Told) (now : List Journal) → IsRoster starts → AllByRecursion (BeganIn starts) ts → IsPermutation (journals_of ts) now → length now ≡ length starts → AreOneSession now
one_session_in starts ts now roster all same long = record {
  some = let some : 0 < length starts = roster.some in omega (arith, some, long);
  members = in_order_all (λ (j : Journal). j.start.config.members ≡ length now) ts now same
      (all_by (BeganIn starts) (λ (t : Told). t.journal.start.config.members ≡ length now) ts (λ t began. (in_roster starts t roster began).members ∙ sym long) all) now (λ j h. h);
  session = in_order_all (λ (a : Journal). AllByRecursion (λ (b : Journal). SameSession a.start b.start) now) ts now same
      (all_by (BeganIn starts) (λ (t : Told). AllByRecursion (λ (b : Journal). SameSession t.journal.start b.start) now) ts
      (λ t began. in_order_all (λ (b : Journal). SameSession t.journal.start b.start) ts now same (all_by (BeganIn starts) (λ (u : Told). SameSession t.journal.start u.journal.start) ts (λ u also. same_session starts t u roster began also) all) now (λ j h. h))
      all) now (λ j h. h);
}

pub in_order : (starts : List Start) (ts : List Told) → IsRoster starts → AllByRecursion (BeganIn starts) ts → AreOfOneSession ts → length starts ≤ length ts → (q : List Journal) × InOrder (journals_of ts) q
in_order starts ts roster all apart many =
    let few : length ts ≤ length starts = no_more_records starts ts roster all apart in
    let count : length (journals_of ts) ≡ length ts = length-map ts (λ (t : Told). t.journal) in
    let each : (k : ℕ) → k < length (journals_of ts) → (j : Journal) × Has j (journals_of ts) × (j.start.config.me ≡ k) = λ k l.
    let (t, has, me) = each_has_record starts ts roster all apart many k (omega (arith, l, count, few)) in (t.journal, map-Has (λ (t : Told). t.journal) t ts has, me) in
    let p : PlacedUpTo (journals_of ts) (length (journals_of ts)) = place_up (journals_of ts) each (length (journals_of ts)) (omega arith) in
    let long : length p.now ≡ length (journals_of ts) = length_permutation (journals_of ts) p.now p.same in (
      p.now,
      record {
        same = p.same;
        roster = is_roster p.now (subst (λ n. ArePlaced n p.now) (sym long) p.placed) (one_session_in starts ts p.now roster all p.same (omega (arith, long, count, few, many)));
      },
    )

-- what the journals in order have is what is told

pub told_at : (ts : List Told) (q : List Journal) → InOrder (journals_of ts) q → (t : Told) → Has t ts → slice_get q t.journal.start.config.me ≡ Some t.journal
told_at ts q order t has =
    let (k, at) = Has-slice_get t.journal q (Has-permuted t.journal (journals_of ts) q order.same (map-Has (λ (t : Told). t.journal) t ts has)) in
    ap (slice_get q) (me_at q k t.journal order.roster at) ∙ at

abbrev entries_in : Option Journal → List Entry
entries_in o = unwrap_or (option_map (λ (j : Journal). j.entries) o) []

abbrev calls_in : Option Told → List Entry
calls_in o = unwrap_or (option_map (λ (t : Told). t.journal.entries) o) []

pub told_in_order : (ts : List Told) (q : List Journal) → InOrder (journals_of ts) q → (m : ℕ) → entries_at q m ≡ calls_told ts m
told_in_order ts q order m = go (told_of ts m) refl
  where
    none : told_of ts m ≡ None → (o : Option Journal) → slice_get q m ≡ o → entries_in o ≡ []
    none untold None at = refl
    none untold (Some j) at =
        let back : Has j (journals_of ts) = Has-permuted j q (journals_of ts) (IsPermutation-sym (journals_of ts) q order.same) (slice_get-Has q m j at) in
        let (t, has, is) = Has-map (λ (t : Told). t.journal) j ts back in
        let me : t.journal.start.config.me ≡ m = ap (λ (x : Journal). x.start.config.me) (sym is) ∙ me_at q m j order.roster at in
        absurd (All-Has (λ (t : Told). m ≢ t.journal.start.config.me) t ts (none_told ts m untold) has (sym me))

    go : (o : Option Told) → told_of ts m ≡ o → entries_at q m ≡ calls_told ts m
    go None untold = none untold (slice_get q m) refl ∙ ap calls_in (sym untold)
    go (Some t) is =
        let (has, found) = find-Has (λ (x : Told). x.journal.start.config.me == m) ts t is in
        ap (λ k. entries_in (slice_get q k)) (sym (eqb-true t.journal.start.config.me m found)) ∙ ap entries_in (told_at ts q order t has) ∙ ap calls_in (sym is)
