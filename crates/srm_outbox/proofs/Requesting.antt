-- Requests for several names: the names that one request covers, and the requests one after the other.
use Rattle.std.proofs.Common.{◌≡◌, ℕ, ◌+◌, ◌-◌, ◌*◌, ◌%◌, ◌^◌, ◌<◌, ◌≤◌, Bool, true, false, ◌&&◌, ◌||◌, suc, List, [], ◌∷◌, ◌++◌, length, get_or, drop, map, refl, ap, sym, ◌∙◌, subst, inl, inr, arith, append_assoc}
use Rattle.std.specs.Prelude.{◌⊎◌, Option, Some, cond, filter, nat_lt, nat_le}
use Rattle.std.specs.List.{AllByRecursion}
use Rattle.std.proofs.lemmas.Bool.{and_parts, and_from, cond-true, cond-false, false_from_ne_true, lt-ltb, ltb-true, le-leb, leb-true}
use Rattle.std.proofs.lemmas.Bool.Decides.{nat_tests}
use Rattle.std.proofs.lemmas.List.{append-nil}
use Rattle.std.proofs.lemmas.List.Sums.{sum_by-cons}
use Rattle.std.proofs.Math.Nat.{two-pow-succ, mod-eq_of_lt}
use Rattle.std.proofs.Math.Pow.{pow_mono, pow-lt}
use Rattle.srm_names.specs.declared.limits.TheConstants.{MEMBERS, DRAWOPS}
use Rattle.srm_names.specs.declared.stream.Stream.{Stream}
use Rattle.srm_names.specs.FullName.{FullName}
use Rattle.srm_names.specs.Names.{same_stream, stream_below, name_below, ascending}
use Rattle.srm_names.proofs.Lists.{AllByRecursion-snoc, left_at}
use Rattle.srm_names.proofs.Orders.{name_order}
use Rattle.srm_names.proofs.Same.{same_stream-is, same_stream-itself}
use Rattle.srm_names.proofs.Rising.{ascending_drop}
use Rattle.srm_codec.specs.declared.datagram.Datagram.{Datagram}
use Rattle.srm_codec.specs.declared.datagram.Datagram.TheVariants.{Request}
use Rattle.srm_codec.specs.Spelling.{IsSpellable, is_name, sender_of, is_session}
use Rattle.srm_codec.proofs.ContentLaws.{asked_answer}
use Rattle.srm_codec.proofs.Masks.{named_within}
use Rattle.srm_outbox.specs.DueItems.{MayHandIn}
use Rattle.srm_entries.specs.Packing.{is_covered, is_covered_by, mask_of, packed_after, packed}

-- no stream lies between a stream and itself

never_back : (s t : Stream) → stream_below s t ≡ true → stream_below t s ≡ true → ⊥
never_back s t p q = grind (arith, nat_tests)

not_below_itself : (s : Stream) → stream_below s s ≡ true → ⊥
not_below_itself s p = grind (arith, nat_tests)

tells : (a b : FullName) → name_below a b ≡ true → (stream_below a.stream b.stream ≡ true) ⊎ ((a.stream ≡ b.stream) × (a.number < b.number))
tells a b e = go (stream_below a.stream b.stream) refl
  where
    go : (p : Bool) → stream_below a.stream b.stream ≡ p → (stream_below a.stream b.stream ≡ true) ⊎ ((a.stream ≡ b.stream) × (a.number < b.number))
    go true h = inl h
    go false h =
        let k = and_parts (same_stream a.stream b.stream) (nat_lt a.number b.number) (ap (λ p. p || same_stream a.stream b.stream && nat_lt a.number b.number) (sym h) ∙ e) in
        inr (same_stream-is a.stream b.stream k.0, ltb-true a.number b.number k.1)

-- a name between two names of one stream is of that stream
between : (a n b : FullName) → a.stream ≡ b.stream → name_below a n ≡ true → name_below n b ≡ true → (n.stream ≡ a.stream) × (a.number < n.number) × (n.number < b.number)
between a n b same p q = go (tells a n p) (tells n b q)
  where
    go : (stream_below a.stream n.stream ≡ true) ⊎ ((a.stream ≡ n.stream) × (a.number < n.number)) → (stream_below n.stream b.stream ≡ true) ⊎ ((n.stream ≡ b.stream) × (n.number < b.number))
        → (n.stream ≡ a.stream) × (a.number < n.number) × (n.number < b.number)
    go (inl x) (inl y) = absurd (never_back a.stream n.stream x (subst (λ s. stream_below n.stream s ≡ true) (sym same) y))
    go (inl x) (inr y) = absurd (not_below_itself a.stream (subst (λ s. stream_below a.stream s ≡ true) (y.0 ∙ sym same) x))
    go (inr x) (inl y) = absurd (not_below_itself b.stream (subst (λ s. stream_below s b.stream ≡ true) (sym x.0 ∙ same) y))
    go (inr x) (inr y) = (sym x.0, x.1, y.1)

-- when a request covers a name

record Covers (first n : FullName) : Type 0 where
  pub stream : first.stream ≡ n.stream
  pub above : first.number < n.number
  pub near : n.number ≤ first.number + 32

covers : (first n : FullName) → is_covered first n ≡ true → Covers first n
covers first n e =
    let k = and_parts (same_stream first.stream n.stream && nat_lt first.number n.number) (nat_le n.number (first.number + 32)) e in
    let m = and_parts (same_stream first.stream n.stream) (nat_lt first.number n.number) k.0 in
    record { stream = same_stream-is first.stream n.stream m.0; above = ltb-true first.number n.number m.1; near = leb-true n.number (first.number + 32) k.1 }

covered : (first n : FullName) → Covers first n → is_covered first n ≡ true
covered first n c =
    and_from _ _ (and_from _ _ (subst (λ s. same_stream first.stream s ≡ true) c.stream (same_stream-itself first.stream)) (lt-ltb first.number n.number c.above))
    (le-leb n.number (first.number + 32) c.near)

-- behind the first name that isn't covered, no name is covered
not_covered : (first before n m : FullName) → before.stream ≡ first.stream → first.number ≤ before.number → name_below before n ≡ true → is_covered first n ≡ false → name_below n m ≡ true → is_covered first m ≡ false
not_covered first before n m s l p u q = false_from_ne_true (is_covered first m) (λ e.
    let c = covers first m e in
    let b = between before n m (s ∙ c.stream) p q in
    let near : n.number ≤ first.number + 32 = omega (arith, c.near, b.2) in
    let above : first.number < n.number = omega (arith, b.1) in
    let k : true ≡ false = sym (covered first n (record { stream = sym (b.0 ∙ s); above = above; near = near })) ∙ u in
    cc)

mask_at : (first n : FullName) (ns : List FullName) (b : Bool) → is_covered first n ≡ b → mask_of first (n ∷ ns) ≡ cond b (2 ^ (n.number - first.number - 1) + mask_of first ns) (mask_of first ns)
mask_at first n ns true e = rw e (sum_by-cons (λ (k : ℕ). k) (2 ^ (n.number - first.number - 1)) (map (λ (m : FullName). 2 ^ (m.number - first.number - 1)) (filter (is_covered first) ns)))
mask_at first n ns false e = rw e refl

none_covered : (first before n : FullName) (ns : List FullName) → before.stream ≡ first.stream → first.number ≤ before.number → ascending name_below (before ∷ n ∷ ns) ≡ true → is_covered first n ≡ false → mask_of first (n ∷ ns) ≡ 0
none_covered first before n [] s l asc u = mask_at first n [] false u
none_covered first before n (x ∷ xs) s l asc u =
    let p = and_parts (name_below before n) (ascending name_below (n ∷ x ∷ xs)) asc in
    let q = and_parts (name_below n x) (ascending name_below (x ∷ xs)) p.1 in
    mask_at first n (x ∷ xs) false u
    ∙ none_covered first before x xs s l (and_from _ _ (name_order.transitive before n x p.0 q.0) q.1) (not_covered first before n x s l p.0 u q.0)

-- A loop has been over some of the names, all of them covered, and has these left.
pub record MaskSoFar (first : FullName) (rest left : List FullName) (mask : ℕ) : Type 0 where
  pub before : FullName
  pub stream : before.stream ≡ first.stream
  pub from_first : first.number ≤ before.number
  pub near : before.number ≤ first.number + 32
  pub limit : before.number ≤ DRAWOPS
  pub below : mask < 2 ^ (before.number - first.number)
  pub rising : ascending name_below (before ∷ left) ≡ true
  pub sum : mask + mask_of first left ≡ mask_of first rest

pub mask_goes_on : (first n : FullName) (rest ns : List FullName) (mask : ℕ) → n.number ≤ DRAWOPS → is_covered first n ≡ true → MaskSoFar first rest (n ∷ ns) mask → MaskSoFar first rest ns (mask + 2 ^ (n.number - first.number - 1))
mask_goes_on first n rest ns mask l e m =
    let c = covers first n e in
    let p = and_parts (name_below m.before n) (ascending name_below (n ∷ ns)) m.rising in
    let later : m.before.number < n.number = later m.before n (m.stream ∙ c.stream) p.0 in
    let step : n.number - first.number ≡ (n.number - first.number - 1) + 1 = omega (arith, c.above) in
    let low : m.before.number - first.number ≤ n.number - first.number - 1 = omega (arith, m.from_first) in
    let pow : 2 ^ (m.before.number - first.number) ≤ 2 ^ (n.number - first.number - 1) = pow_mono low in
    let twice : 2 ^ (n.number - first.number) ≡ 2 ^ (n.number - first.number - 1) + 2 ^ (n.number - first.number - 1) = ap (λ k. 2 ^ k) step ∙ double (n.number - first.number - 1) in
    let at : mask_of first (n ∷ ns) ≡ 2 ^ (n.number - first.number - 1) + mask_of first ns = mask_at first n ns true e in
    record {
      before = n;
      stream = sym c.stream;
      from_first = omega (arith, c.above);
      near = c.near;
      limit = l;
      below = omega (arith, m.below);
      rising = p.1;
      sum = omega (arith, m.sum);
    }
  where
    later : (a b : FullName) → a.stream ≡ b.stream → name_below a b ≡ true → a.number < b.number
    later a b s h = elim (tells a b h) [
      | inl x ↦ absurd (not_below_itself b.stream (subst (λ t. stream_below t b.stream ≡ true) s x))
      | inr y ↦ y.1
    ]

    double : (k : ℕ) → 2 ^ (k + 1) ≡ 2 ^ k + 2 ^ k
    double k = let e : k + 1 ≡ suc k = omega arith in ap (λ j. 2 ^ j) e ∙ two-pow-succ k

pub mask_stops : (first n : FullName) (rest ns : List FullName) (mask : ℕ) → is_covered first n ≡ false → MaskSoFar first rest (n ∷ ns) mask → mask ≡ mask_of first rest
mask_stops first n rest ns mask e m =
    let none : mask_of first (n ∷ ns) ≡ 0 = none_covered first m.before n ns m.stream m.from_first m.rising e in
    omega (arith, m.sum)

pub mask_within : (first : FullName) (rest left : List FullName) (mask : ℕ) → MaskSoFar first rest left mask → mask < 2 ^ (DRAWOPS - first.number)
mask_within first rest left mask m =
    let low : m.before.number - first.number ≤ DRAWOPS - first.number = omega (arith, m.limit) in
    let pow : 2 ^ (m.before.number - first.number) ≤ 2 ^ (DRAWOPS - first.number) = pow_mono low in
    omega (arith, m.below)

pub mask_short : (first : FullName) (rest left : List FullName) (mask : ℕ) → MaskSoFar first rest left mask → mask < 2 ^ 32
mask_short first rest left mask m =
    let low : m.before.number - first.number ≤ 32 = omega (arith, m.near) in
    let pow : 2 ^ (m.before.number - first.number) ≤ 2 ^ 32 = pow_mono low in
    omega (arith, m.below)

-- a request of names in range is spellable
pub request_spelled : (me mask : ℕ) (first : FullName) → me < MEMBERS → is_name first → mask < 2 ^ 32 → mask < 2 ^ (DRAWOPS - first.number) → IsSpellable (Request me first mask)
request_spelled me mask first member name short within =
    let limit : first.number ≤ DRAWOPS = name.3 in
    (member, short, (asked_answer first mask true name (sym (named_within first mask DRAWOPS limit short ∙ lt-ltb mask (2 ^ (DRAWOPS - first.number)) within))).0 refl)

-- the names in order, from one on

pub rising_from : (i : ℕ) (n : FullName) (names : List FullName) → i < length names → n ≡ get_or names i n → ascending name_below names ≡ true → ascending name_below (n ∷ drop (i + 1) names) ≡ true
rising_from i n names lt at asc = subst (λ ns. ascending name_below ns ≡ true) (left_at i n names lt at) (ascending_drop name_below i names asc)

-- A loop has made these requests. The last one begins at this name, and these names are left.
pub record PackedSoFar (me : ℕ) (asks left : List FullName) (last : Option FullName) (requests : List Datagram) : Type 0 where
  pub packs : requests ++ packed_after me last left ≡ packed me asks
  pub each : AllByRecursion (MayHandIn me) requests

pub packs_covered : (me : ℕ) (asks ns : List FullName) (n : FullName) (last : Option FullName) (requests : List Datagram) → is_covered_by last n ≡ true → PackedSoFar me asks (n ∷ ns) last requests → PackedSoFar me asks ns last requests
packs_covered me asks ns n last requests e p = record {
  packs = ap (λ gs. requests ++ gs) (sym (cond-true (is_covered_by last n) (packed_after me last ns) (Request me n (mask_of n ns) ∷ packed_after me (Some n) ns) e)) ∙ p.packs;
  each = p.each;
}

pub packs_more : (me : ℕ) (asks ns : List FullName) (n : FullName) (last : Option FullName) (requests : List Datagram) (r : Datagram) → is_covered_by last n ≡ false → r ≡ Request me n (mask_of n ns) → IsSpellable r
    → PackedSoFar me asks (n ∷ ns) last requests → PackedSoFar me asks ns (Some n) (requests ++ r ∷ [])
packs_more me asks ns n last requests r e is spelled p = record {
  packs = append_assoc requests (r ∷ []) (packed_after me (Some n) ns)
      ∙ ap (λ gs. requests ++ gs) (ap (λ g. g ∷ packed_after me (Some n) ns) is ∙ sym (cond-false (is_covered_by last n) (packed_after me last ns) (Request me n (mask_of n ns) ∷ packed_after me (Some n) ns) e)) ∙ p.packs;
  each = AllByRecursion-snoc (MayHandIn me) requests r p.each (record { sender = ap sender_of is; charged = ap is_session is; spellable = spelled });
}

pub packs_all : (me : ℕ) (asks : List FullName) (last : Option FullName) (requests : List Datagram) → PackedSoFar me asks [] last requests → requests ≡ packed me asks
packs_all me asks last requests p = sym (append-nil requests) ∙ p.packs

-- a shift of one within 32 bits
pub one_shifted : (first n : FullName) (a b k : ℕ) → is_covered first n ≡ true → a ≡ n.number → b ≡ first.number → k ≡ a - b - 1 → 1 * 2 ^ k % 4294967296 ≡ 2 ^ (n.number - first.number - 1)
one_shifted first n a b k e p q r =
    let c = covers first n e in
    let same : k ≡ n.number - first.number - 1 = r ∙ ap (λ m. m - b - 1) p ∙ ap (λ m. n.number - m - 1) q in
    let small : n.number - first.number - 1 < 32 = omega (arith, c.near, c.above) in
    let below : 2 ^ (n.number - first.number - 1) < 4294967296 = pow-lt small in
    let one : 1 * 2 ^ (n.number - first.number - 1) ≡ 2 ^ (n.number - first.number - 1) = omega arith in
    ap (λ j. 1 * 2 ^ j % 4294967296) same ∙ ap (λ j. j % 4294967296) one ∙ mod-eq_of_lt below
