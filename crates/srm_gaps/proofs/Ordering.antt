-- Putting calls in order until none may follow.
use Rattle.std.proofs.Common.{◌≡◌, ℕ, ◌==◌, ◌+◌, ◌≤◌, ◌<◌, min, Bool, true, false, ◌||◌, List, [], ◌∷◌, ◌++◌, length, take, get_or, refl, ap, sym, ◌∙◌, subst, inl, inr, arith}
use Rattle.std.specs.Prelude.{◌⊎◌, Option, Some, None, slice_get, option_map, unwrap_or, if◌then◌else◌, is_some, IfSome, IsSome, MatchBool, MatchOption}
use Rattle.std.specs.List.{AllByRecursion}
use Rattle.std.proofs.lemmas.Bool.{cases_lt, eqb-true}
use Rattle.std.proofs.lemmas.List.{take_more, take_all}
use Rattle.std.proofs.lemmas.Option.{IfSome_then}
use Rattle.srm_names.proofs.Lists.{All-Has, AllByRecursion-snoc, all_by, find-Has, front_whole}
use Rattle.srm_entries.specs.declared.entry.Entry.{Entry}
use Rattle.srm_world.specs.Traces.{of_member}
use Rattle.srm_gaps.specs.declared.told.Told.{Told}
use Rattle.srm_gaps.specs.Possible.{told_of, calls_told, HearsImpossible, HasOrder, AreStuck, IsStuckAt, IsRefusedAt}
use Rattle.srm_gaps.specs.Orders.{OrderView, count_in, Comes, calls_left, next_by, MayFollow, IsStalled, Advances, Goes, Tries, Stops, NoneLeft, IsFirstLeft, smaller}
use Rattle.srm_gaps.proofs.Continuing.{past_end, no_continuation}
use Rattle.srm_gaps.proofs.Following.{next_is}

-- one member goes on as far as it can

-- so far calls were put in order, or nothing changed
pub record GoesSo (ts : List Told) (old now : OrderView) (moved : Bool) : Type 0 where
  pub comes : Comes ts now
  pub went : MatchBool moved (Advances ts old now) (now ≡ old)

pub goes_first : (ts : List Told) (v : OrderView) → Comes ts v → GoesSo ts v v false
goes_first ts v comes = record { comes = comes; went = refl }

further : (ts : List Told) (old mid new : OrderView) (moved : Bool) → MatchBool moved (Advances ts old mid) (mid ≡ old) → Advances ts mid new → Advances ts old new
further ts old mid new true h a = record { comes = a.comes; less = let l = a.less in let k = h.less in omega (arith, l, k) }
further ts old mid new false h a = subst (λ (v : OrderView). Advances ts v new) h a

pub goes_more : (ts : List Told) (old mid new : OrderView) (moved : Bool) → GoesSo ts old mid moved → Advances ts mid new → GoesSo ts old new true
goes_more ts old mid new moved h a = record { comes = a.comes; went = further ts old mid new moved h.went a }

pub goes_end : (ts : List Told) (m : ℕ) (old mid new : OrderView) (moved : Bool) → GoesSo ts old mid moved → new ≡ mid → IsStalled ts mid m → Goes ts m old new moved
goes_end ts m old mid new true h same stalled = subst (Advances ts old) (sym same) h.went
goes_end ts m old mid new false h same stalled = (same ∙ h.went, subst (λ (v : OrderView). IsStalled ts v m) h.went stalled)

-- each member in turn

pub record TriesSo (ts : List Told) (i : ℕ) (old now : OrderView) (moved : Bool) : Type 0 where
  pub comes : Comes ts now
  pub tries : Tries (take i ts) ts old now moved

pub tries_first : (ts : List Told) (v : OrderView) → Comes ts v → TriesSo ts 0 v v false
tries_first ts v comes = record { comes = comes; tries = (refl, tt) }

pub tries_more : (ts : List Told) (i : ℕ) (t : Told) (m : ℕ) (old mid new : OrderView) (moved went : Bool) → i < length ts → t ≡ get_or ts i t → m ≡ t.journal.start.config.me → TriesSo ts i old mid moved → Goes ts m mid new went → TriesSo ts (i + 1) old new (moved || went)
tries_more ts i t m old mid new true true l is me h a = record { comes = a.comes; tries = further ts old mid new true h.tries a }
tries_more ts i t m old mid new false true l is me h a = record { comes = a.comes; tries = further ts old mid new false h.tries.0 a }
tries_more ts i t m old mid new true false l is me h (same, stalled) = record {
  comes = subst (Comes ts) (sym same) h.comes;
  tries = subst (Advances ts old) (sym same) h.tries;
}
tries_more ts i t m old mid new false false l is me h (same, stalled) = record {
  comes = subst (Comes ts) (sym same) h.comes;
  tries = (
    same ∙ h.tries.0,
    subst (AllByRecursion (λ (x : Told). IsStalled ts old x.journal.start.config.me)) (ap (λ x. take i ts ++ x ∷ []) is ∙ sym (take_more ts i t l))
        (AllByRecursion-snoc (λ (x : Told). IsStalled ts old x.journal.start.config.me) (take i ts) t h.tries.1 (subst (λ (v : OrderView). IsStalled ts v t.journal.start.config.me) h.tries.0 (subst (IsStalled ts mid) me stalled))),
  );
}

pub tries_all : (ts : List Told) (i : ℕ) (old now : OrderView) (moved : Bool) → length ts ≤ i → TriesSo ts i old now moved → Tries ts ts old now moved
tries_all ts i old now moved l h = subst (λ (tried : List Told). Tries tried ts old now moved) (take_all i ts l) h.tries

pub tried_comes : (ts tried : List Told) (old now : OrderView) (moved : Bool) → Tries tried ts old now moved → moved ≡ true → Comes ts now
tried_comes ts tried old now true h e = h.comes
tried_comes ts tried old now false h e = absurd (cc)

pub tried_less : (ts tried : List Told) (old now : OrderView) (moved : Bool) → Tries tried ts old now moved → moved ≡ true → calls_left ts 0 now.counts < calls_left ts 0 old.counts
tried_less ts tried old now true h e = h.less
tried_less ts tried old now false h e = absurd (cc)

pub stops : (ts : List Told) (old now : OrderView) (moved : Bool) → Comes ts old → Tries ts ts old now moved → moved ≡ false → Stops ts now
stops ts old now true comes h e = absurd (cc)
stops ts old now false comes (same, stalled) e = record {
  comes = subst (Comes ts) (sym same) comes;
  stalled = subst (λ (v : OrderView). AllByRecursion (λ (t : Told). IsStalled ts v t.journal.start.config.me) ts) (sym same) stalled;
}

-- what holds of each member that has a record, and of those that have none

pub by_told : (P : ℕ → Type 0) (ts : List Told) → AllByRecursion (λ (t : Told). P t.journal.start.config.me) ts → ((m : ℕ) → calls_told ts m ≡ [] → P m) → (m : ℕ) → P m
by_told P ts all none m = which (told_of ts m) refl
  where
    which : (o : Option Told) → told_of ts m ≡ o → P m
    which None e = none m (ap (λ p. unwrap_or (option_map (λ (t : Told). t.journal.entries) p) []) e)
    which (Some t) e =
        let (there, is) = find-Has (λ (x : Told). x.journal.start.config.me == m) ts t e in
        subst P (eqb-true t.journal.start.config.me m is) (All-Has (λ (x : Told). P x.journal.start.config.me) t ts all there)

none_next : (ts : List Told) (v : OrderView) (m : ℕ) → calls_told ts m ≡ [] → next_by ts v m ≡ None
none_next ts v m e = ap (λ xs. slice_get xs (count_in v.counts m)) e

stuck : (ts : List Told) (v : OrderView) (s : Stops ts v) → AreStuck ts s.comes.es
stuck ts v s = record {
  prefixes = s.comes.prefixes;
  possible = s.comes.possible;
  waits = λ m. subst (λ o. IfSome o (HearsImpossible ts s.comes.es)) (next_is ts s.comes.es v m s.comes.of)
      (IfSome_then (next_by ts v m) (by_told (IsStalled ts v) ts s.stalled (λ k e. subst (λ o. IfSome o (λ x. MayFollow ts v x false)) (sym (none_next ts v k e)) tt) m) (λ e f. f s.comes.es s.comes.of));
}

-- the smallest member that has a call left

pub left_none : (tried ts : List Told) (v : OrderView) → (tried ≡ []) → MatchOption None (NoneLeft tried ts v) (IsFirstLeft tried ts v)
left_none tried ts v e = subst (λ (us : List Told). NoneLeft us ts v) (sym e) tt

not_some : {X : Type 0} (o : Option X) → o ≡ None → IsSome o → ⊥
not_some None e h = absurd (cc)
not_some (Some x) e h = absurd (cc)

cases_min : (a b : ℕ) → (min a b ≡ a) ⊎ (min a b ≡ b)
cases_min a b = elim (cases_lt a b) [
  | inl q ↦ inl (omega (arith, q))
  | inr q ↦ inr (omega (arith, q))
]

pub left_more : (ts : List Told) (v : OrderView) (i : ℕ) (t : Told) (m : ℕ) (old new : Option ℕ) → i < length ts → t ≡ get_or ts i t → m ≡ t.journal.start.config.me → MatchOption old (NoneLeft (take i ts) ts v) (IsFirstLeft (take i ts) ts v)
    → new ≡ (if is_some (next_by ts v m) then smaller old m else old) → MatchOption new (NoneLeft (take (i + 1) ts) ts v) (IsFirstLeft (take (i + 1) ts) ts v)
left_more ts v i t m old new l is me h e =
    subst (λ (o : Option ℕ). MatchOption o (NoneLeft (take (i + 1) ts) ts v) (IsFirstLeft (take (i + 1) ts) ts v)) (sym e)
    (subst (λ (us : List Told). MatchOption (if is_some (next_by ts v m) then smaller old m else old) (NoneLeft us ts v) (IsFirstLeft us ts v)) (ap (λ x. take i ts ++ x ∷ []) is ∙ sym (take_more ts i t l)) (which (next_by ts v m) refl old h))
  where
    which : (o : Option Entry) → next_by ts v m ≡ o → (first : Option ℕ) → MatchOption first (NoneLeft (take i ts) ts v) (IsFirstLeft (take i ts) ts v)
        → MatchOption (if is_some o then smaller first m else first) (NoneLeft (take i ts ++ t ∷ []) ts v) (IsFirstLeft (take i ts ++ t ∷ []) ts v)
    which None n None all = AllByRecursion-snoc (λ (x : Told). next_by ts v x.journal.start.config.me ≡ None) (take i ts) t all (subst (λ (k : ℕ). next_by ts v k ≡ None) me n)
    which None n (Some k) (left, all) =
        (left, AllByRecursion-snoc (λ (x : Told). IsSome (next_by ts v x.journal.start.config.me) → k ≤ x.journal.start.config.me) (take i ts) t all (λ s. absurd (not_some (next_by ts v t.journal.start.config.me) (subst (λ (j : ℕ). next_by ts v j ≡ None) me n) s)))
    which (Some x) n None all = (
      subst IsSome (sym n) refl,
      AllByRecursion-snoc (λ (y : Told). IsSome (next_by ts v y.journal.start.config.me) → m ≤ y.journal.start.config.me) (take i ts) t
          (all_by (λ (y : Told). next_by ts v y.journal.start.config.me ≡ None) (λ (y : Told). IsSome (next_by ts v y.journal.start.config.me) → m ≤ y.journal.start.config.me) (take i ts) (λ y q s. absurd (not_some (next_by ts v y.journal.start.config.me) q s)) all) (λ s. omega (arith, me)),
    )
    which (Some x) n (Some k) (left, all) = (
      least,
      AllByRecursion-snoc (λ (y : Told). IsSome (next_by ts v y.journal.start.config.me) → min k m ≤ y.journal.start.config.me) (take i ts) t
          (all_by (λ (y : Told). IsSome (next_by ts v y.journal.start.config.me) → k ≤ y.journal.start.config.me) (λ (y : Told). IsSome (next_by ts v y.journal.start.config.me) → min k m ≤ y.journal.start.config.me) (take i ts) (λ y q s. let f = q s in omega (arith, f)) all) (λ s. omega (arith, me)),
    )
      where
        least : IsSome (next_by ts v (min k m))
        least = elim (cases_min k m) [
          | inl q ↦ subst (λ (j : ℕ). IsSome (next_by ts v j)) (sym q) left
          | inr q ↦ subst (λ (j : ℕ). IsSome (next_by ts v j)) (sym q) (subst IsSome (sym n) refl)
        ]

pub left_all : (ts : List Told) (v : OrderView) (i : ℕ) (first : Option ℕ) → length ts ≤ i → MatchOption first (NoneLeft (take i ts) ts v) (IsFirstLeft (take i ts) ts v) → MatchOption first (NoneLeft ts ts v) (IsFirstLeft ts ts v)
left_all ts v i first l h = subst (λ (us : List Told). MatchOption first (NoneLeft us ts v) (IsFirstLeft us ts v)) (take_all i ts l) h

pub has_order : (ts : List Told) (v : OrderView) → Stops ts v → NoneLeft ts ts v → HasOrder ts
has_order ts v s none = record {
  es = s.comes.es;
  all = λ m.
      let at : next_by ts v m ≡ None = by_told (λ (k : ℕ). next_by ts v k ≡ None) ts none (none_next ts v) m in
      let l : length (calls_told ts m) ≤ count_in v.counts m = past_end (calls_told ts m) (count_in v.counts m) at in
      front_whole (of_member m s.comes.es) (calls_told ts m) (s.comes.prefixes m) (subst (λ n. length (calls_told ts m) ≤ n) (s.comes.of.counts m) l);
  possible = s.comes.possible;
}

stuck_at : (ts : List Told) (v : OrderView) (member entry : ℕ) → Stops ts v → IsFirstLeft ts ts v member → entry ≡ count_in v.counts member → IsStuckAt ts member entry
stuck_at ts v member entry s (left, least) count = record {
  es = s.comes.es;
  stuck = stuck ts v s;
  left = subst IsSome (next_is ts s.comes.es v member s.comes.of) left;
  smallest = λ m l. sym (next_is ts s.comes.es v m s.comes.of) ∙ which m l (next_by ts v m) refl;
  count = count ∙ s.comes.of.counts member;
}
  where
    low : (m : ℕ) → IsSome (next_by ts v m) → member ≤ m
    low = by_told (λ (k : ℕ). IsSome (next_by ts v k) → member ≤ k) ts least (λ k e h. absurd (not_some (next_by ts v k) (none_next ts v k e) h))

    which : (m : ℕ) → m < member → (o : Option Entry) → next_by ts v m ≡ o → next_by ts v m ≡ None
    which m l None e = e
    which m l (Some x) e = let k = low m (subst IsSome (sym e) refl) in absurd (omega (arith, l, k))

pub refused_at : (ts : List Told) (v : OrderView) (member entry : ℕ) → Stops ts v → IsFirstLeft ts ts v member → entry ≡ count_in v.counts member → IsRefusedAt ts member entry
refused_at ts v member entry s first count = let at = stuck_at ts v member entry s first count in (at, no_continuation ts member entry at)
