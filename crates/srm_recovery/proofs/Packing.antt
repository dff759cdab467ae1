-- A member's requests ask for exactly what it asks for.
use Rattle.std.proofs.Common.{◌≡◌, ℕ, zero, suc, ◌+◌, ◌-◌, ◌*◌, ◌/◌, ◌%◌, ◌^◌, ◌<◌, ◌≤◌, ◌==◌, Bool, true, false, ◌&&◌, ◌||◌, List, [], ◌∷◌, ◌++◌, map, refl, ap, sym, ◌∙◌, subst, arith, inl, inr}
use Rattle.std.specs.Prelude.{◌⊎◌, Option, Some, None, cond, filter, nat_lt, nat_le, sum, if◌then◌else◌}
use Rattle.std.proofs.lemmas.Bool.{and_parts, ltb-true, leb-true, false_from_ne_true}
use Rattle.std.proofs.lemmas.Bool.Decides.{nat_tests}
use Rattle.std.proofs.lemmas.List.Sums.{sum_by-cons}
use Rattle.std.proofs.Math.Nat.{two-pow-succ}
use Rattle.srm_names.specs.declared.stream.Stream.{Stream}
use Rattle.srm_names.specs.FullName.{FullName}
use Rattle.srm_names.specs.Names.{named, same_stream, stream_below, same_name, name_below, ascending, among}
use Rattle.srm_names.proofs.Lists.{Has, Has-filter, Has-kept, any_Has, list_any-Has}
use Rattle.srm_names.proofs.Rising.{ascending_tail}
use Rattle.srm_names.proofs.Orders.{below_later}
use Rattle.srm_names.proofs.Same.{same_stream-is, same_name-is, same_name-itself, name_parts}
use Rattle.srm_codec.specs.declared.datagram.Datagram.{Datagram}
use Rattle.srm_codec.specs.declared.datagram.Datagram.TheVariants.{Request}
use Rattle.srm_codec.specs.Spelling.{bits_set, asked_by}
use Rattle.srm_codec.proofs.Asked.{bits_more, no_bits}
use Rattle.srm_entries.specs.Packing.{is_covered, is_covered_by, mask_of, packed_after, packed}

-- numbers that rise, each from one on and below another
abbrev Rises : ℕ → ℕ → List ℕ → Type 0
Rises from below [] = Unit {0}
Rises from below (n ∷ ns) = (from ≤ n) × (n < below) × Rises (n + 1) below ns

abbrev powers : List ℕ → ℕ
powers [] = 0
powers (n ∷ ns) = 2 ^ n + powers ns

powers_lowered : (from below : ℕ) (ns : List ℕ) → Rises (from + 1) (below + 1) ns → (powers ns ≡ 2 * powers (map (λ n. n - 1) ns)) × Rises from below (map (λ n. n - 1) ns) × (map (λ n. n + 1) (map (λ n. n - 1) ns) ≡ ns)
powers_lowered from below [] r = (refl, tt, refl)
powers_lowered from below (n ∷ ns) r =
    let (doubled, rises, back) = powers_lowered n below ns r.2 in
    let low : from + 1 ≤ n = r.0 in
    let high : n < below + 1 = r.1 in
    let twice : 2 ^ n ≡ 2 ^ (n - 1) + 2 ^ (n - 1) = ap (λ k. 2 ^ k) (one_less n from low) ∙ two-pow-succ (n - 1) in
    let first : n - 1 + 1 ≡ n = omega arith in (
      omega arith,
      (omega arith, omega arith, subst (λ k. Rises k below (map (λ j. j - 1) ns)) (sym first) rises),
      ap (λ k. k ∷ map (λ j. j + 1) (map (λ j. j - 1) ns)) first ∙ ap (λ ks. n ∷ ks) back,
    )
  where
    one_less : (n from : ℕ) → from + 1 ≤ n → n ≡ suc (n - 1)
    one_less n from l = omega arith

-- the bits that are set in a sum of powers are those
bits_of_powers : (k : ℕ) (ns : List ℕ) → Rises 0 k ns → bits_set k (powers ns) ≡ ns
bits_of_powers zero [] r = no_bits 0
bits_of_powers zero (n ∷ ns) r = let high : n < 0 = r.1 in absurd (omega arith)
bits_of_powers (suc k) [] r = bits_more k 0 ∙ ap (λ bits. map (λ b. b + 1) bits) (bits_of_powers k [] tt)
bits_of_powers (suc k) (zero ∷ ns) r =
    let same : suc k ≡ k + 1 = omega arith in
    let (doubled, rises, back) = powers_lowered 0 k ns (subst (λ j. Rises (0 + 1) j ns) same r.2) in
    let odd : (1 + powers ns) % 2 ≡ 1 = omega arith in
    let half : (1 + powers ns) / 2 ≡ powers (map (λ n. n - 1) ns) = omega arith in
    bits_more k (1 + powers ns)
    ∙ ap (λ j. (if j == 1 then 0 ∷ [] else []) ++ map (λ b. b + 1) (bits_set k ((1 + powers ns) / 2))) odd
    ∙ ap (λ j. 0 ∷ map (λ b. b + 1) (bits_set k j)) half
    ∙ ap (λ bits. 0 ∷ map (λ b. b + 1) bits) (bits_of_powers k (map (λ n. n - 1) ns) rises)
    ∙ ap (λ bits. 0 ∷ bits) back
bits_of_powers (suc k) (suc n ∷ ns) r =
    let same : suc k ≡ k + 1 = omega arith in
    let high : suc n < suc k = r.1 in
    let low : 0 + 1 ≤ suc n = omega arith in
    let below : suc n < k + 1 = omega arith in
    let (doubled, rises, back) = powers_lowered 0 k (suc n ∷ ns) (low, below, subst (λ j. Rises (suc n + 1) j ns) same r.2) in
    let even : powers (suc n ∷ ns) % 2 ≡ 0 = omega arith in
    let half : powers (suc n ∷ ns) / 2 ≡ powers (map (λ j. j - 1) (suc n ∷ ns)) = omega arith in
    bits_more k (powers (suc n ∷ ns))
    ∙ ap (λ j. (if j == 1 then 0 ∷ [] else []) ++ map (λ b. b + 1) (bits_set k (powers (suc n ∷ ns) / 2))) even
    ∙ ap (λ j. map (λ b. b + 1) (bits_set k j)) half
    ∙ ap (map (λ b. b + 1)) (bits_of_powers k (map (λ j. j - 1) (suc n ∷ ns)) rises)
    ∙ back

-- the names that a request covers behind its first

record Covers (first n : FullName) : Type 0 where
  pub stream : first.stream ≡ n.stream
  pub above : first.number < n.number
  pub near : n.number ≤ first.number + 32

covers : (first n : FullName) → is_covered first n ≡ true → Covers first n
covers first n e =
    let k = and_parts (same_stream first.stream n.stream && nat_lt first.number n.number) (nat_le n.number (first.number + 32)) e in
    let m = and_parts (same_stream first.stream n.stream) (nat_lt first.number n.number) k.0 in
    record { stream = same_stream-is first.stream n.stream m.0; above = ltb-true first.number n.number m.1; near = leb-true n.number (first.number + 32) k.1 }

-- the bit of a name
abbrev bit_of : FullName → FullName → ℕ
bit_of first n = n.number - first.number - 1

mask_is : (first : FullName) (ns : List FullName) → mask_of first ns ≡ powers (map (bit_of first) (filter (is_covered first) ns))
mask_is first ns = go (filter (is_covered first) ns)
  where
    go : (ms : List FullName) → sum (map (λ (n : FullName). 2 ^ (n.number - first.number - 1)) ms) ≡ powers (map (bit_of first) ms)
    go [] = refl
    go (m ∷ ms) = sum_by-cons (λ (k : ℕ). k) (2 ^ (m.number - first.number - 1)) (map (λ (n : FullName). 2 ^ (n.number - first.number - 1)) ms) ∙ ap (λ k. 2 ^ (m.number - first.number - 1) + k) (go ms)

-- names in order, all of them after another: the bits of those that are covered rise

not_below_itself : (s : Stream) → stream_below s s ≡ true → ⊥
not_below_itself s p = grind (arith, nat_tests)

lex_last : (lt eq more : Bool) → lt ≡ false → (lt || eq && more) ≡ true → more ≡ true
lex_last true eq more f e = absurd (cc)
lex_last false true more f e = e
lex_last false false more f e = absurd (cc)

above_of : (first m n : FullName) → is_covered first m ≡ true → is_covered first n ≡ true → name_below m n ≡ true → m.number < n.number
above_of first m n c d b =
    let p = covers first m c in
    let q = covers first n d in
    let same : m.stream ≡ n.stream = sym p.stream ∙ q.stream in
    let never : stream_below m.stream n.stream ≡ false = subst (λ s. stream_below m.stream s ≡ false) same (false_from_ne_true (stream_below m.stream m.stream) (not_below_itself m.stream)) in
    ltb-true m.number n.number (lex_last (stream_below m.stream n.stream) (same_stream m.stream n.stream) (nat_lt m.number n.number) never b)

bits_rise : (first : FullName) (from : ℕ) (ns : List FullName) → ascending name_below ns ≡ true → ((n : FullName) → Has n ns → is_covered first n ≡ true → from ≤ bit_of first n) → Rises from 32 (map (bit_of first) (filter (is_covered first) ns))
bits_rise first from [] asc low = tt
bits_rise first from (n ∷ ns) asc low = go (is_covered first n) refl (λ k. bits_rise first k ns (ascending_tail name_below n ns asc))
  where
    go : (b : Bool) → is_covered first n ≡ b
        → ((k : ℕ) → ((m : FullName) → Has m ns → is_covered first m ≡ true → k ≤ bit_of first m) → Rises k 32 (map (bit_of first) (filter (is_covered first) ns)))
        → Rises from 32 (map (bit_of first) (cond b (n ∷ filter (is_covered first) ns) (filter (is_covered first) ns)))
    go false e more = more from (λ m h c. low m (inr h) c)
    go true e more =
        let p = covers first n e in (
          low n (inl refl) e,
          omega (arith, p.above, p.near),
          more (bit_of first n + 1) (λ m h c.
              let q = covers first m c in
              let l : n.number < m.number = above_of first n m e c (below_later n m ns asc (list_any-Has (same_name m) m ns h (same_name-itself m))) in
              omega (arith, p.above, q.above)),
        )

-- a request asks for its first name, and for those that it covers
asked_is : (first : FullName) (ns : List FullName) → ascending name_below ns ≡ true → asked_by first (mask_of first ns) ≡ first ∷ filter (is_covered first) ns
asked_is first ns asc =
    ap (λ (bits : List ℕ). first ∷ map (λ bit. named first.stream (first.number + 1 + bit)) bits)
    (ap (bits_set 32) (mask_is first ns) ∙ bits_of_powers 32 (map (bit_of first) (filter (is_covered first) ns)) (bits_rise first 0 ns asc (λ n h c. omega arith)))
    ∙ ap (λ ms. first ∷ ms) (back ns)
  where
    one : (n : FullName) → is_covered first n ≡ true → named first.stream (first.number + 1 + bit_of first n) ≡ n
    one n e = let p = covers first n e in name_parts (named first.stream (first.number + 1 + bit_of first n)) n p.stream (omega (arith, p.above))

    back : (ms : List FullName) → map (λ bit. named first.stream (first.number + 1 + bit)) (map (bit_of first) (filter (is_covered first) ms)) ≡ filter (is_covered first) ms
    back [] = refl
    back (m ∷ ms) = go (is_covered first m) refl (back ms)
      where
        go : (b : Bool) → is_covered first m ≡ b → map (λ bit. named first.stream (first.number + 1 + bit)) (map (bit_of first) (filter (is_covered first) ms)) ≡ filter (is_covered first) ms
            → map (λ bit. named first.stream (first.number + 1 + bit)) (map (bit_of first) (cond b (m ∷ filter (is_covered first) ms) (filter (is_covered first) ms))) ≡ cond b (m ∷ filter (is_covered first) ms) (filter (is_covered first) ms)
        go false e more = more
        go true e more = ap (λ n. n ∷ map (λ bit. named first.stream (first.number + 1 + bit)) (map (bit_of first) (filter (is_covered first) ms))) (one m e) ∙ ap (λ ns. m ∷ ns) more

-- a request among those that the names are packed into, which asks for the name
pub record Requested (me : ℕ) (requests : List Datagram) (n : FullName) : Type 0 where
  pub first : FullName
  pub mask : ℕ
  pub has : Has (Request me first mask) requests
  pub asks : Has n (asked_by first mask)

requested_after : (me : ℕ) (last : Option FullName) (ns : List FullName) (n : FullName) → ascending name_below ns ≡ true → Has n ns → (is_covered_by last n ≡ true) ⊎ Requested me (packed_after me last ns) n
requested_after me last [] n asc h = absurd h
requested_after me last (x ∷ xs) n asc h = go (is_covered_by last x) refl h (λ o. requested_after me o xs n (ascending_tail name_below x xs asc))
  where
    tail : ascending name_below xs ≡ true
    tail = ascending_tail name_below x xs asc

    go : (b : Bool) → is_covered_by last x ≡ b → Has n (x ∷ xs) → ((o : Option FullName) → Has n xs → (is_covered_by o n ≡ true) ⊎ Requested me (packed_after me o xs) n)
        → (is_covered_by last n ≡ true) ⊎ Requested me (cond b (packed_after me last xs) (Request me x (mask_of x xs) ∷ packed_after me (Some x) xs)) n
    go true e (inl q) more = inl (ap (is_covered_by last) q ∙ e)
    go true e (inr k) more = more last k
    go false e (inl q) more = inr (record { first = x; mask = mask_of x xs; has = inl refl; asks = inl q })
    go false e (inr k) more = elim (more (Some x) k) [
      | inl c ↦ inr (record { first = x; mask = mask_of x xs; has = inl refl; asks = subst (λ w. Has n w) (sym (asked_is x xs tail)) (inr (Has-kept (is_covered x) n xs c k)) })
      | inr r ↦ inr (record { first = r.first; mask = r.mask; has = inr r.has; asks = r.asks })
    ]

-- each ask stands in a request
pub requested : (me : ℕ) (asks : List FullName) (n : FullName) → ascending name_below asks ≡ true → among asks n ≡ true → Requested me (packed me asks) n
requested me asks n asc a =
    let (x, h, e) = any_Has (same_name n) asks a in
    elim (requested_after me None asks n asc (subst (λ w. Has w asks) (sym (same_name-is n x e)) h)) [ inl c ↦ absurd (never c) | inr r ↦ r ]
  where
    never : false ≡ true → ⊥
    never e = absurd (cc)

-- and each name that a request asks for is one of those
asked_after : (me s mask : ℕ) (first n : FullName) (last : Option FullName) (ns : List FullName) → ascending name_below ns ≡ true → Has (Request s first mask) (packed_after me last ns) → Has n (asked_by first mask) → Has n ns
asked_after me s mask first n last [] asc h a = absurd h
asked_after me s mask first n last (x ∷ xs) asc h a = go (is_covered_by last x) h (λ o k. asked_after me s mask first n o xs (ascending_tail name_below x xs asc) k a)
  where
    tail : ascending name_below xs ≡ true
    tail = ascending_tail name_below x xs asc

    go : (b : Bool) → Has (Request s first mask) (cond b (packed_after me last xs) (Request me x (mask_of x xs) ∷ packed_after me (Some x) xs))
        → ((o : Option FullName) → Has (Request s first mask) (packed_after me o xs) → Has n xs) → Has n (x ∷ xs)
    go true k more = inr (more last k)
    go false (inr k) more = inr (more (Some x) k)
    go false (inl e) more =
        let same_first : first ≡ x = cc in
        let same_mask : mask ≡ mask_of x xs = cc in
        elim (subst (λ w. Has n w) (ap (λ f. asked_by f mask) same_first ∙ ap (asked_by x) same_mask ∙ asked_is x xs tail) a) [
          | inl q ↦ inl q
          | inr k ↦ inr (Has-filter (is_covered x) n xs k)
        ]

pub asked_only : (me s mask : ℕ) (first n : FullName) (asks : List FullName) → ascending name_below asks ≡ true → Has (Request s first mask) (packed me asks) → Has n (asked_by first mask) → among asks n ≡ true
asked_only me s mask first n asks asc h a = list_any-Has (same_name n) n asks (asked_after me s mask first n None asks asc h a) (same_name-itself n)
