-- What a bucket lets go depends on its calls only by what they handed in, what went, and the level that they leave.
use Rattle.std.proofs.Common.{◌≡◌, ℕ, ◌-◌, ◌≤◌, max, List, [], ◌∷◌, ◌++◌, map, length, drop, refl, ap, sym, ◌∙◌, subst, arith, append_assoc}
use Rattle.std.specs.Prelude.{Option, Some, None}
use Rattle.std.proofs.lemmas.Option.{none-some, same_Some}
use Rattle.std.proofs.lemmas.Grind.{flat_map-append}
use Rattle.std.proofs.lemmas.List.{append-nil}
use Rattle.srm_codec.specs.declared.datagram.Datagram.{Datagram}
use Rattle.srm_bucket.specs.declared.class.Class.{Class}
use Rattle.srm_bucket.specs.Calls.{Classed, BucketCall, Handed, Popped}
use Rattle.srm_bucket.specs.Classes.{handed_in, departed_in, handed, departed, queued, next_queued}
use Rattle.srm_bucket.specs.Ticks.{last_moment, ticks, cost, level, IsWithin}
use Rattle.srm_bucket.specs.Law.{BucketLaw, level_at, covered, may_go}
use Rattle.srm_bucket.proofs.Highest.{next-same}
use Rattle.srm_bucket.proofs.Pausing.{paused-none, popped-may_go}
use Rattle.srm_bucket.proofs.Steps.{last-snoc, level-popped}
use Rattle.srm_entries.specs.Bucket.{pops}
use Rattle.srm_entries.proofs.Charging.{handed_ticks, handed_last, law_at, later_same, within_later}
use Rattle.srm_entries.proofs.Marks.{pop_is_next}
use Rattle.srm_entries.proofs.Spending.{law_within}
use Rattle.srm_entries.proofs.Cutting.{law_part}

-- two lists of calls that leave a bucket the same from their last moments on
pub record SameCalls (rate depth : ℕ) (xs ys : List (BucketCall Datagram)) : Type 0 where
  pub came : (k : Class) → handed k xs ≡ handed k ys
  pub went : (k : Class) → departed k xs ≡ departed k ys
  pub levels : (t : ℕ) → last_moment xs ≤ t → last_moment ys ≤ t → level rate depth t (ticks xs) ≡ level rate depth t (ticks ys)

pub calls_back : (rate depth : ℕ) (xs ys : List (BucketCall Datagram)) → SameCalls rate depth xs ys → SameCalls rate depth ys xs
calls_back rate depth xs ys s = record { came = λ k. sym (s.came k); went = λ k. sym (s.went k); levels = λ t l m. sym (s.levels t m l) }

-- one more call

came_more : (k : Class) (xs ys more : List (BucketCall Datagram)) → handed k xs ≡ handed k ys → handed k (xs ++ more) ≡ handed k (ys ++ more)
came_more k xs ys more e = flat_map-append (handed_in k) xs more ∙ ap (λ w. w ++ handed k more) e ∙ sym (flat_map-append (handed_in k) ys more)

went_more : (k : Class) (xs ys more : List (BucketCall Datagram)) → departed k xs ≡ departed k ys → departed k (xs ++ more) ≡ departed k (ys ++ more)
went_more k xs ys more e = flat_map-append (departed_in k) xs more ∙ ap (λ w. w ++ departed k more) e ∙ sym (flat_map-append (departed_in k) ys more)

pub same_handed : (rate depth : ℕ) (xs ys : List (BucketCall Datagram)) (items : List (Classed Datagram)) → SameCalls rate depth xs ys → SameCalls rate depth (xs ++ map Handed items) (ys ++ map Handed items)
same_handed rate depth xs ys items s = record {
  came = λ k. came_more k xs ys (map Handed items) (s.came k);
  went = λ k. went_more k xs ys (map Handed items) (s.went k);
  levels = λ t l m. ap (level rate depth t) (handed_ticks xs items) ∙ s.levels t (subst (λ n. n ≤ t) (handed_last xs items) l) (subst (λ n. n ≤ t) (handed_last ys items) m) ∙ ap (level rate depth t) (sym (handed_ticks ys items));
}

-- a moment that is no lower than the last counts

counts : (last now : ℕ) → last ≤ now → max last now ≡ now
counts last now l = omega arith

last_popped : (xs : List (BucketCall Datagram)) (now : ℕ) (went : Option (Classed Datagram)) → last_moment xs ≤ now → last_moment (xs ++ Popped now went ∷ []) ≡ now
last_popped xs now went l = last-snoc xs (Popped now went) ∙ counts (last_moment xs) now l

level_then : (rate depth : ℕ) (xs : List (BucketCall Datagram)) (now : ℕ) (went : Option (Classed Datagram)) → last_moment xs ≤ now
    → level rate depth now (ticks (xs ++ Popped now went ∷ [])) ≡ level rate depth now (ticks xs) - cost went
level_then rate depth xs now went l =
    subst (λ m. level rate depth m (ticks (xs ++ Popped now went ∷ [])) ≡ level rate depth m (ticks xs) - cost went) (counts (last_moment xs) now l) (level-popped rate depth xs now went)

within_then : (rate depth : ℕ) (xs : List (BucketCall Datagram)) (now : ℕ) (went : Option (Classed Datagram)) → last_moment xs ≤ now → BucketLaw rate depth (xs ++ Popped now went ∷ [])
    → IsWithin rate depth now (ticks (xs ++ Popped now went ∷ []))
within_then rate depth xs now went l law =
    subst (λ m. IsWithin rate depth m (ticks (xs ++ Popped now went ∷ []))) (last_popped xs now went l) (law_within rate depth (xs ++ Popped now went ∷ []) law)

pub same_popped : (rate depth : ℕ) (xs ys : List (BucketCall Datagram)) (now : ℕ) (went : Option (Classed Datagram)) → SameCalls rate depth xs ys → last_moment xs ≤ now → last_moment ys ≤ now
    → BucketLaw rate depth (xs ++ Popped now went ∷ []) → BucketLaw rate depth (ys ++ Popped now went ∷ []) → SameCalls rate depth (xs ++ Popped now went ∷ []) (ys ++ Popped now went ∷ [])
same_popped rate depth xs ys now went s l m law other = record {
  came = λ k. came_more k xs ys (Popped now went ∷ []) (s.came k);
  went = λ k. went_more k xs ys (Popped now went ∷ []) (s.went k);
  levels = λ t p q. later_same rate depth now t (ticks (xs ++ Popped now went ∷ [])) (ticks (ys ++ Popped now went ∷ [])) (subst (λ n. n ≤ t) (last_popped xs now went l) p)
      (within_then rate depth xs now went l law) (within_then rate depth ys now went m other)
      (level_then rate depth xs now went l ∙ ap (λ n. n - cost went) (s.levels now l m) ∙ sym (level_then rate depth ys now went m));
}

-- a pop that lets nothing go leaves all as it was
pub same_paused : (rate depth : ℕ) (xs : List (BucketCall Datagram)) (now : ℕ) → last_moment xs ≤ now → BucketLaw rate depth (xs ++ Popped now None ∷ []) → SameCalls rate depth (xs ++ Popped now None ∷ []) xs
same_paused rate depth xs now l law = record {
  came = λ k. flat_map-append (handed_in k) xs (Popped now None ∷ []) ∙ append-nil (handed k xs);
  went = λ k. flat_map-append (departed_in k) xs (Popped now None ∷ []) ∙ append-nil (departed k xs);
  levels = λ t p q. later_same rate depth now t (ticks (xs ++ Popped now None ∷ [])) (ticks xs) (subst (λ n. n ≤ t) (last_popped xs now None l) p)
      (within_then rate depth xs now None l law)
      (within_later rate depth (last_moment xs) now (ticks xs) l (law_within rate depth xs (law_part rate depth xs (Popped now None ∷ []) law)))
      (level_then rate depth xs now None l ∙ less_nothing (level rate depth now (ticks xs)));
}
  where
    less_nothing : (n : ℕ) → n - 0 ≡ n
    less_nothing n = omega arith

pub calls_then : (rate depth : ℕ) (xs ys zs : List (BucketCall Datagram)) → SameCalls rate depth xs ys → ((t : ℕ) → last_moment xs ≤ t → last_moment ys ≤ t) → SameCalls rate depth ys zs → SameCalls rate depth xs zs
calls_then rate depth xs ys zs s early r = record {
  came = λ k. s.came k ∙ r.came k;
  went = λ k. s.went k ∙ r.went k;
  levels = λ t l m. s.levels t l (early t l) ∙ r.levels t (early t l) m;
}

-- what goes

same_next : (rate depth : ℕ) (xs ys : List (BucketCall Datagram)) → SameCalls rate depth xs ys → next_queued xs ≡ next_queued ys
same_next rate depth xs ys s = next-same (queued xs) (queued ys) (λ k. ap (λ w. drop (length w) (handed k xs)) (s.went k) ∙ ap (drop (length (departed k ys))) (s.came k))

same_may : (rate depth : ℕ) (xs ys : List (BucketCall Datagram)) (now : ℕ) → SameCalls rate depth xs ys → last_moment xs ≤ now → last_moment ys ≤ now → may_go rate depth xs now ≡ may_go rate depth ys now
same_may rate depth xs ys now s l m =
    let at : level_at rate depth xs now ≡ level_at rate depth ys now =
    ap (λ n. level rate depth n (ticks xs)) (counts (last_moment xs) now l) ∙ s.levels now l m ∙ ap (λ n. level rate depth n (ticks ys)) (sym (counts (last_moment ys) now m)) in
    ap (λ n. covered n (next_queued xs)) at ∙ ap (covered (level_at rate depth ys now)) (same_next rate depth xs ys s)

nothing_may : (rate depth : ℕ) (xs more : List (BucketCall Datagram)) (now : ℕ) → BucketLaw rate depth (xs ++ Popped now None ∷ more) → may_go rate depth xs now ≡ None
nothing_may rate depth xs more now law = paused-none rate depth xs now (law_at rate depth xs more (Popped now None) law)

this_may : (rate depth : ℕ) (xs more : List (BucketCall Datagram)) (now : ℕ) (i : Classed Datagram) → BucketLaw rate depth (xs ++ Popped now (Some i) ∷ more) → may_go rate depth xs now ≡ Some i
this_may rate depth xs more now i law =
    let right = law_at rate depth xs more (Popped now (Some i)) law in
    popped-may_go rate depth xs now i right (pop_is_next rate depth now xs i right)

-- the same goes in a tick, and the bucket is the same after it
pub record SameTick (rate depth now : ℕ) (xs ys : List (BucketCall Datagram)) (goes others : List (Classed Datagram)) : Type 0 where
  pub goes_same : goes ≡ others
  pub calls : SameCalls rate depth (xs ++ pops now goes) (ys ++ pops now others)

pub same_tick : (rate depth now : ℕ) (xs ys : List (BucketCall Datagram)) (goes others : List (Classed Datagram)) → SameCalls rate depth xs ys → last_moment xs ≤ now → last_moment ys ≤ now
    → BucketLaw rate depth (xs ++ pops now goes) → BucketLaw rate depth (ys ++ pops now others) → SameTick rate depth now xs ys goes others
same_tick rate depth now xs ys [] [] s l m law other = record { goes_same = refl; calls = same_popped rate depth xs ys now None s l m law other }
same_tick rate depth now xs ys [] (y ∷ others) s l m law other =
    absurd (none-some y (sym (nothing_may rate depth xs [] now law) ∙ same_may rate depth xs ys now s l m ∙ this_may rate depth ys (pops now others) now y other))
same_tick rate depth now xs ys (x ∷ goes) [] s l m law other =
    absurd (none-some x (sym (nothing_may rate depth ys [] now other) ∙ sym (same_may rate depth xs ys now s l m) ∙ this_may rate depth xs (pops now goes) now x law))
same_tick rate depth now xs ys (x ∷ goes) (y ∷ others) s l m law other =
    let first : y ≡ x = same_Some y x (sym (this_may rate depth ys (pops now others) now y other) ∙ sym (same_may rate depth xs ys now s l m) ∙ this_may rate depth xs (pops now goes) now x law) in
    let split : xs ++ pops now (x ∷ goes) ≡ (xs ++ Popped now (Some x) ∷ []) ++ pops now goes = sym (append_assoc xs (Popped now (Some x) ∷ []) (pops now goes)) in
    let other_split : ys ++ pops now (y ∷ others) ≡ (ys ++ Popped now (Some x) ∷ []) ++ pops now others =
    ap (λ z. ys ++ pops now (z ∷ others)) first ∙ sym (append_assoc ys (Popped now (Some x) ∷ []) (pops now others)) in
    let law_on : BucketLaw rate depth ((xs ++ Popped now (Some x) ∷ []) ++ pops now goes) = subst (BucketLaw rate depth) split law in
    let other_on : BucketLaw rate depth ((ys ++ Popped now (Some x) ∷ []) ++ pops now others) = subst (BucketLaw rate depth) other_split other in
    let popped = same_popped rate depth xs ys now (Some x) s l m (law_part rate depth (xs ++ Popped now (Some x) ∷ []) (pops now goes) law_on) (law_part rate depth (ys ++ Popped now (Some x) ∷ []) (pops now others) other_on) in
    let at : last_moment (xs ++ Popped now (Some x) ∷ []) ≤ now = subst (λ n. n ≤ now) (sym (last_popped xs now (Some x) l)) (omega arith) in
    let at_other : last_moment (ys ++ Popped now (Some x) ∷ []) ≤ now = subst (λ n. n ≤ now) (sym (last_popped ys now (Some x) m)) (omega arith) in
    let rest = same_tick rate depth now (xs ++ Popped now (Some x) ∷ []) (ys ++ Popped now (Some x) ∷ []) goes others popped at at_other law_on other_on in
    record {
      goes_same = ap (λ z. z ∷ goes) (sym first) ∙ ap (λ w. y ∷ w) rest.goes_same;
      calls = subst (λ w. SameCalls rate depth w (ys ++ pops now (y ∷ others))) (sym split) (subst (SameCalls rate depth ((xs ++ Popped now (Some x) ∷ []) ++ pops now goes)) (sym other_split) rest.calls);
    }
