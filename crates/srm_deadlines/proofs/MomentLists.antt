-- Lists of moments: the least and the first of them, by blocks.
use Rattle.std.proofs.Common.{◌≡◌, ℕ, zero, suc, ◌+◌, ◌*◌, ◌/◌, ◌<◌, ◌≤◌, Bool, true, false, List, [], ◌∷◌, length, get_or, refl, sym, ap, subst, ◌∙◌, eq-eqb, inl, inr, ◌⊎◌, arith}
use Rattle.std.specs.Prelude.{Option, Some, None, if◌then◌else◌, is_some, nat_eq, not, min, slice_set}
use Rattle.std.specs.Option.{option_eq}
use Rattle.std.proofs.lemmas.Bool.{both_ways, cases_lt, leb-false, lt-leb, eqb-true, eqb-false}
use Rattle.std.proofs.lemmas.List.{length-set, get_or-set_same, get_or-set_other}
use Rattle.std.proofs.lemmas.Nat.{div-add-mod', mod_below}
use Rattle.std.proofs.lemmas.Option.{none-some}
use Rattle.srm_names.specs.Moments.{has_come}
use Rattle.srm_names.proofs.Lists.{is_none}
use Rattle.srm_deadlines.specs.Least.{lesser}
use Rattle.srm_deadlines.specs.MomentLists.{item_at, IsUnder, IsLeastIn, IsFirstIn, AreLeasts}

-- ---- what stands at an index

pub past_end : {V : Type 0} (moments : List (Option V)) (i : ℕ) → length moments ≤ i → item_at moments i ≡ None
past_end [] i le = refl
past_end (x ∷ xs) zero le = absurd (omega arith)
past_end (x ∷ xs) (suc i) le = past_end xs i (omega arith)

pub stands_within : {V : Type 0} (moments : List (Option V)) (i : ℕ) (v : V) → item_at moments i ≡ Some v → i < length moments
stands_within moments i v e = elim (cases_lt i (length moments)) [ inl l ↦ l | inr le ↦ absurd (none-some v (sym (past_end moments i le) ∙ e)) ]

pub is_item : {V : Type 0} (moments : List (Option V)) (i : ℕ) (o : Option V) → i < length moments → o ≡ get_or moments i o → item_at moments i ≡ o
is_item [] i o lt e = absurd (omega arith)
is_item (x ∷ xs) zero o lt e = sym e
is_item (x ∷ xs) (suc i) o lt e = is_item xs i o (omega arith) e

-- ---- the block of an index

pub block_of : (i : ℕ) → (16 * (i / 16) ≤ i) × (i < 16 * (i / 16) + 16)
block_of i = let e = div-add-mod' i 16 in let l = mod_below i 16 (omega arith) in (omega arith, omega arith)

-- ---- moments that are none or later

pub under_trans : (a b c : Option ℕ) → IsUnder a b → IsUnder b c → IsUnder a c
under_trans a b None p q = tt
under_trans a None (Some m) p q = absurd q
under_trans None (Some u) (Some m) p q = absurd p
under_trans (Some t) (Some u) (Some m) p q = let k : t ≤ u = p in let l : u ≤ m = q in omega arith

pub under_lesser : (a b o : Option ℕ) → IsUnder a o → IsUnder (lesser a b) o
under_lesser a b None h = tt
under_lesser None b (Some m) h = absurd h
under_lesser (Some t) None (Some m) h = h
under_lesser (Some t) (Some u) (Some m) h = let k : t ≤ m = h in omega arith

pub lesser_under : (a b : Option ℕ) → IsUnder (lesser a b) b
lesser_under a None = tt
lesser_under None (Some u) = omega arith
lesser_under (Some t) (Some u) = omega arith

pub lesser_is : (a b : Option ℕ) → (lesser a b ≡ a) ⊎ (lesser a b ≡ b)
lesser_is None b = inr refl
lesser_is (Some x) None = inl refl
lesser_is (Some x) (Some y) = elim (cases_lt x y) [ inl l ↦ inl (let e : min x y ≡ x = omega arith in ap Some e) | inr l ↦ inr (let e : min x y ≡ y = omega arith in ap Some e) ]

pub none_under : (o : Option ℕ) → IsUnder None o → o ≡ None
none_under None u = refl
none_under (Some m) u = absurd u

-- what is later than one that hasn't come hasn't come
pub not_come : (now : ℕ) (a b : Option ℕ) → IsUnder a b → has_come now a ≡ false → has_come now b ≡ false
not_come now a None u e = refl
not_come now None (Some m) u e = absurd u
not_come now (Some t) (Some m) u e = let k : t ≤ m = u in let l : now < t = leb-false t now e in lt-leb m now (omega arith)

pub come_some : (now : ℕ) (o : Option ℕ) → has_come now o ≡ true → (t : ℕ) × (o ≡ Some t)
come_some now None e = absurd (let k : false ≡ true = e in cc)
come_some now (Some t) e = (t, refl)

-- ---- a list that is looked through

pub none_yet : (moments : List (Option ℕ)) (low : ℕ) → IsLeastIn moments low low None
none_yet moments low = record { under = λ i from below. absurd (omega arith); is_one = λ t e. absurd (none-some t e) }

pub least_more : (moments : List (Option ℕ)) (low i : ℕ) (found o new : Option ℕ) → low ≤ i → item_at moments i ≡ o → new ≡ lesser found o → IsLeastIn moments low i found → IsLeastIn moments low (i + 1) new
least_more moments low i found o new le is new_is h = record {
  under = λ k from below. subst (λ n. IsUnder n (item_at moments k)) (sym new_is) (elim (cases_lt k i) [
    | inl l ↦ under_lesser found o (item_at moments k) (h.under k from l)
    | inr l ↦ subst (λ x. IsUnder (lesser found o) x) (sym is ∙ ap (item_at moments) (let e : i ≡ k = omega arith in e)) (lesser_under found o)
  ]);
  is_one = λ t e. elim (lesser_is found o) [
    | inl first ↦ (let (k, from, below, at) = h.is_one t (sym first ∙ sym new_is ∙ e) in (k, from, omega arith, at))
    | inr second ↦ (i, le, omega arith, is ∙ sym second ∙ sym new_is ∙ e)
  ];
}

-- ---- blocks

-- one item changes, and what is above it
pub set_leasts : (above above' moments moments' : List (Option ℕ)) (index : ℕ) (new least : Option ℕ) → AreLeasts above moments → ((i : ℕ) → item_at moments' i ≡ (if nat_eq i index then new else item_at moments i)) → length moments' ≡ length moments
    → IsLeastIn moments' (16 * (index / 16)) (16 * (index / 16) + 16) least → ((j : ℕ) → item_at above' j ≡ (if nat_eq j (index / 16) then least else item_at above j)) → length above' ≡ length above → AreLeasts above' moments'
set_leasts above above' moments moments' index new least h set same is_least put long = record {
  covers = let k = h.covers in omega arith;
  each = λ j. subst (λ o. IsLeastIn moments' (16 * j) (16 * j + 16) o) (sym (put j)) (go j (nat_eq j (index / 16)) refl);
}
  where
    other : (j i : ℕ) → nat_eq j (index / 16) ≡ false → 16 * j ≤ i → i < 16 * j + 16 → item_at moments' i ≡ item_at moments i
    other j i e from below = set i ∙ turn (nat_eq i index) refl
      where
        turn : (b : Bool) → nat_eq i index ≡ b → (if b then new else item_at moments i) ≡ item_at moments i
        turn false f = refl
        turn true f =
            let at : i ≡ index = eqb-true i index f in
            let parts = block_of index in
            let low : 16 * (index / 16) ≤ index = parts.0 in
            let high : index < 16 * (index / 16) + 16 = parts.1 in
            let same : j ≡ index / 16 = omega arith in
            absurd (both_ways (nat_eq j (index / 16)) e (eq-eqb j (index / 16) same))

    go : (j : ℕ) (b : Bool) → nat_eq j (index / 16) ≡ b → IsLeastIn moments' (16 * j) (16 * j + 16) (if b then least else item_at above j)
    go j true e = subst (λ q. IsLeastIn moments' (16 * q) (16 * q + 16) least) (sym (eqb-true j (index / 16) e)) is_least
    go j false e = record {
      under = λ i from below. subst (λ o. IsUnder (item_at above j) o) (sym (other j i e from below)) ((h.each j).under i from below);
      is_one = λ t at. let (i, from, below, is) = (h.each j).is_one t at in (i, from, below, other j i e from below ∙ is);
    }

within_above : (above moments : List (Option ℕ)) (i : ℕ) → AreLeasts above moments → i < length moments → i / 16 < length above
within_above above moments i h lt = let parts = block_of i in let low : 16 * (i / 16) ≤ i = parts.0 in let k = h.covers in omega arith

-- the least of what is above is the least of all
pub least_of_all : (above moments : List (Option ℕ)) (least : Option ℕ) → AreLeasts above moments → IsLeastIn above 0 (length above) least → IsLeastIn moments 0 (length moments) least
least_of_all above moments least h l = record {
  under = λ i from below. under_trans least (item_at above (i / 16)) (item_at moments i) (l.under (i / 16) (omega arith) (within_above above moments i h below)) ((h.each (i / 16)).under i (block_of i).0 (block_of i).1);
  is_one = λ t e. let (j, from, below, at) = l.is_one t e in let (i, from', below', is) = (h.each j).is_one t at in (i, omega arith, stands_within moments i t is, is);
}

-- ---- the first that has expired

-- it stands in the block at which the search begins
pub first_here : (now : ℕ) (moments : List (Option ℕ)) (low high : ℕ) (found : Option ℕ) (k : ℕ) → found ≡ Some k → high ≤ length moments → IsFirstIn now moments low high found → IsFirstIn now moments low (length moments) found
first_here now moments low high found k some le h = record {
  none = λ e. absurd (none-some k (sym e ∙ some));
  before = h.before;
  come = λ n e. let (from, below, come) = h.come n e in (from, omega arith, come);
}

come_within : (now : ℕ) (moments : List (Option ℕ)) (i : ℕ) → has_come now (item_at moments i) ≡ true → i < length moments
come_within now moments i come = let (t, is) = come_some now (item_at moments i) come in stands_within moments i t is

passed : (now : ℕ) (above moments : List (Option ℕ)) (from high j : ℕ) → AreLeasts above moments → (high ≡ 16 * (from / 16) + 16) ⊎ (high ≡ length moments) → ((i : ℕ) → from ≤ i → i < high → has_come now (item_at moments i) ≡ false)
    → ((k : ℕ) → from / 16 + 1 ≤ k → k < j → has_come now (item_at above k) ≡ false) → (i : ℕ) → from ≤ i → i / 16 < j → has_come now (item_at moments i) ≡ false
passed now above moments from high j h whole here over i le lt = elim (cases_lt (from / 16) (i / 16)) [
  | inl later ↦ not_come now (item_at above (i / 16)) (item_at moments i) ((h.each (i / 16)).under i (block_of i).0 (block_of i).1) (over (i / 16) (omega arith) lt)
  | inr same ↦ (elim (cases_lt i high) [
    | inl below ↦ here i le below
    | inr past ↦ (elim whole [
      | inl e ↦ (let low : i < 16 * (i / 16) + 16 = (block_of i).1 in absurd (omega arith))
      | inr e ↦ ap (has_come now) (past_end moments i (omega arith))
    ])
  ])
]

-- it stands nowhere
pub first_nowhere : (now : ℕ) (above moments : List (Option ℕ)) (from high : ℕ) (here over : Option ℕ) → AreLeasts above moments → (high ≡ 16 * (from / 16) + 16) ⊎ (high ≡ length moments) → here ≡ None → IsFirstIn now moments from high here
    → over ≡ None → IsFirstIn now above (from / 16 + 1) (length above) over → IsFirstIn now moments from (length moments) None
first_nowhere now above moments from high here over h whole none f none' g = record {
  none = λ e i le lt. passed now above moments from high (length above) h whole (f.none none) (g.none none') i le (within_above above moments i h lt);
  before = λ k e. absurd (none-some k e);
  come = λ k e. absurd (none-some k e);
}

-- it stands in the first block whose least has expired
pub first_later : (now : ℕ) (above moments : List (Option ℕ)) (from high j end : ℕ) (here over found : Option ℕ) → AreLeasts above moments → (high ≡ 16 * (from / 16) + 16) ⊎ (high ≡ length moments) → here ≡ None → IsFirstIn now moments from high here
    → over ≡ Some j → IsFirstIn now above (from / 16 + 1) (length above) over → (end ≡ 16 * j + 16) ⊎ (end ≡ length moments) → IsFirstIn now moments (16 * j) end found → IsFirstIn now moments from (length moments) found
first_later now above moments from high j end here over found h whole none f some g ends last = record {
  none = λ e. absurd (missed e);
  before = λ k e i le lt. elim (cases_lt (i / 16) j) [
    | inl l ↦ passed now above moments from high j h whole (f.none none) (g.before j some) i le l
    | inr l ↦ (let low : 16 * (i / 16) ≤ i = (block_of i).0 in last.before k e i (omega arith) lt)
  ];
  come = λ k e.
      let (low, below, come) = last.come k e in
      let (least, within, has) = g.come j some in
      let near : from < 16 * (from / 16) + 16 = (block_of from).1 in
      (omega arith, come_within now moments k come, come);
}
  where
    missed : found ≡ None → ⊥
    missed e =
        let (least, within, has) = g.come j some in
        let (t, is) = come_some now (item_at above j) has in
        let (i, low, below, at) = (h.each j).is_one t is in
        let come : has_come now (item_at moments i) ≡ true = ap (has_come now) (at ∙ sym is) ∙ has in
        let inside : i < length moments = stands_within moments i t at in
        both_ways (has_come now (item_at moments i)) (last.none e i low (elim ends [ inl f ↦ omega arith | inr f ↦ omega arith ])) come

-- a block whose least has expired stands within the list
pub block_within : (now : ℕ) (above moments : List (Option ℕ)) (j : ℕ) → AreLeasts above moments → has_come now (item_at above j) ≡ true → 16 * j < length moments
block_within now above moments j h has =
    let (t, is) = come_some now (item_at above j) has in
    let (i, low, below, at) = (h.each j).is_one t is in
    let inside : i < length moments = stands_within moments i t at in
    omega arith

-- ---- the loop that looks for the first

pub none_more : (now : ℕ) (moments : List (Option ℕ)) (low i : ℕ) → ((k : ℕ) → low ≤ k → k < i → has_come now (item_at moments k) ≡ false) → has_come now (item_at moments i) ≡ false → (k : ℕ) → low ≤ k → k < i + 1 → has_come now (item_at moments k) ≡ false
none_more now moments low i h e k le lt = elim (cases_lt k i) [
  | inl l ↦ h k le l
  | inr l ↦ ap (λ j. has_come now (item_at moments j)) (let f : k ≡ i = omega arith in f) ∙ e
]

pub is_first : (now : ℕ) (moments : List (Option ℕ)) (low high i : ℕ) → low ≤ i → i < high → ((k : ℕ) → low ≤ k → k < i → has_come now (item_at moments k) ≡ false) → has_come now (item_at moments i) ≡ true → IsFirstIn now moments low high (Some i)
is_first now moments low high i le lt h come = record {
  none = λ e. absurd (none-some i (sym e));
  before = λ k e j from below. h j from (let f : i ≡ k = some-is e in omega arith);
  come = λ k e. let f : i ≡ k = some-is e in (omega arith, omega arith, ap (λ j. has_come now (item_at moments j)) (sym f) ∙ come);
}
  where
    some-is : {a b : ℕ} → Some a ≡ Some b → a ≡ b
    some-is e = cc

pub no_first : (now : ℕ) (moments : List (Option ℕ)) (low high : ℕ) → ((k : ℕ) → low ≤ k → k < high → has_come now (item_at moments k) ≡ false) → IsFirstIn now moments low high None
no_first now moments low high h = record { none = λ e. h; before = λ k e. absurd (none-some k e); come = λ k e. absurd (none-some k e) }

-- ---- the calls of blocks, in their own values

whole_of : (low high len end : ℕ) → low ≡ end → (high ≡ low + 16) ⊎ (high ≡ len) → (moments : List (Option ℕ)) → length moments ≡ len → (high ≡ end + 16) ⊎ (high ≡ length moments)
whole_of low high len end e (inl f) moments l = inl (omega arith)
whole_of low high len end e (inr f) moments l = inr (omega arith)

item_set : (moments : List (Option ℕ)) (index : ℕ) (new : Option ℕ) → index < length moments → (i : ℕ) → item_at (slice_set moments index new) i ≡ (if nat_eq i index then new else item_at moments i)
item_set moments index new lt i = go (nat_eq i index) refl
  where
    go : (b : Bool) → nat_eq i index ≡ b → item_at (slice_set moments index new) i ≡ (if b then new else item_at moments i)
    go true e = ap (item_at (slice_set moments index new)) (eqb-true i index e) ∙ get_or-set_same moments index new None lt
    go false e = get_or-set_other moments index i new None (eqb-false i index e)

same_moment : (a b : Option ℕ) → option_eq nat_eq a b ≡ true → a ≡ b
same_moment None None e = refl
same_moment None (Some y) e = absurd (let k : false ≡ true = e in cc)
same_moment (Some x) None e = absurd (let k : false ≡ true = e in cc)
same_moment (Some x) (Some y) e = ap Some (eqb-true x y e)

other_moment : (a b : Option ℕ) → option_eq nat_eq a b ≡ false → a ≡ b → ⊥
other_moment None None e same = absurd (let k : true ≡ false = e in cc)
other_moment None (Some y) e same = absurd (none-some y same)
other_moment (Some x) None e same = absurd (none-some x (sym same))
other_moment (Some x) (Some y) e same = both_ways (nat_eq x y) e (eq-eqb x y (let k : x ≡ y = cc in k))

-- the least of a block in which another than the least is replaced
least_beside : (moments moments' : List (Option ℕ)) (low high index : ℕ) (old new least : Option ℕ) → low ≤ index → index < high → item_at moments index ≡ old → (old ≡ least → ⊥)
    → ((i : ℕ) → item_at moments' i ≡ (if nat_eq i index then new else item_at moments i)) → IsLeastIn moments low high least → IsLeastIn moments' low high (lesser least new)
least_beside moments moments' low high index old new least from to was other set h = record {
  under = λ i le lt. above i le lt (nat_eq i index) refl;
  is_one = λ t e. elim (lesser_is least new) [
    | inl first ↦ (let (i, le, lt, at) = h.is_one t (sym first ∙ e) in stays t (sym first ∙ e) i le lt at (nat_eq i index) refl)
    | inr second ↦ (index, from, to, at_index index (eq-eqb index index refl) ∙ sym second ∙ e)
  ];
}
  where
    at_index : (i : ℕ) → nat_eq i index ≡ true → item_at moments' i ≡ new
    at_index i e = set i ∙ ap (λ c. if c then new else item_at moments i) e

    beside : (i : ℕ) → nat_eq i index ≡ false → item_at moments' i ≡ item_at moments i
    beside i e = set i ∙ ap (λ c. if c then new else item_at moments i) e

    above : (i : ℕ) → low ≤ i → i < high → (b : Bool) → nat_eq i index ≡ b → IsUnder (lesser least new) (item_at moments' i)
    above i le lt true e = subst (IsUnder (lesser least new)) (sym (at_index i e)) (lesser_under least new)
    above i le lt false e = subst (IsUnder (lesser least new)) (sym (beside i e)) (under_lesser least new (item_at moments i) (h.under i le lt))

    stays : (t : ℕ) → least ≡ Some t → (i : ℕ) → low ≤ i → i < high → item_at moments i ≡ Some t → (b : Bool) → nat_eq i index ≡ b → (i : ℕ) × (low ≤ i) × (i < high) × (item_at moments' i ≡ Some t)
    stays t is i le lt at true e = absurd (other (sym was ∙ ap (item_at moments) (sym (eqb-true i index e)) ∙ at ∙ sym is))
    stays t is i le lt at false e = (i, le, lt, beside i e ∙ at)

-- the least of a block after one of its moments was replaced: the block was looked through again
pub least_again : (moments seen : List (Option ℕ)) (index : ℕ) (new found after : Option ℕ) → seen ≡ slice_set moments index new → IsLeastIn seen (index / 16 * 16) (index / 16 * 16 + 16) found → after ≡ found
    → IsLeastIn (slice_set moments index new) (16 * (index / 16)) (16 * (index / 16) + 16) after
least_again moments seen index new found after is h after_is =
    let low : index / 16 * 16 ≡ 16 * (index / 16) = omega arith in
    subst (IsLeastIn (slice_set moments index new) (16 * (index / 16)) (16 * (index / 16) + 16)) (sym after_is)
    (subst (λ l. IsLeastIn (slice_set moments index new) l (l + 16) found) low (subst (λ r. IsLeastIn r (index / 16 * 16) (index / 16 * 16 + 16) found) is h))

-- the least of a block after one of its moments, which wasn't the least, was replaced
pub least_kept : (above moments : List (Option ℕ)) (index : ℕ) (old new least after : Option ℕ) → AreLeasts above moments → index < length moments → old ≡ get_or moments index old → least ≡ item_at above (index / 16)
    → option_eq nat_eq old least ≡ false → after ≡ lesser least new → IsLeastIn (slice_set moments index new) (16 * (index / 16)) (16 * (index / 16) + 16) after
least_kept above moments index old new least after h lt was is other after_is =
    subst (IsLeastIn (slice_set moments index new) (16 * (index / 16)) (16 * (index / 16) + 16)) (sym after_is)
    (least_beside moments (slice_set moments index new) (16 * (index / 16)) (16 * (index / 16) + 16) index old new least (block_of index).0 (block_of index).1 (is_item moments index old lt was) (other_moment old least other)
    (item_set moments index new lt) (subst (IsLeastIn moments (16 * (index / 16)) (16 * (index / 16) + 16)) (sym is) (h.each (index / 16))))

-- the least of a block is put above it
pub set_above : (above above' moments : List (Option ℕ)) (index : ℕ) (new after : Option ℕ) → AreLeasts above moments → index < length moments → IsLeastIn (slice_set moments index new) (16 * (index / 16)) (16 * (index / 16) + 16) after
    → ((j : ℕ) → item_at above' j ≡ (if nat_eq j (index / 16) then after else item_at above j)) → length above' ≡ length above → AreLeasts above' (slice_set moments index new)
set_above above above' moments index new after h lt is_least put same = set_leasts above above' moments (slice_set moments index new) index new after h (item_set moments index new lt) (length-set moments index new) is_least put same

-- it stands there already
pub set_below : (above moments : List (Option ℕ)) (index : ℕ) (new least after : Option ℕ) → AreLeasts above moments → index < length moments → IsLeastIn (slice_set moments index new) (16 * (index / 16)) (16 * (index / 16) + 16) after
    → least ≡ item_at above (index / 16) → false ≡ not (option_eq nat_eq after least) → AreLeasts above (slice_set moments index new)
set_below above moments index new least after h lt is_least is same = set_above above above moments index new after h lt is_least (λ j. put j (nat_eq j (index / 16)) refl) refl
  where
    not_other : (b : Bool) → false ≡ not b → b ≡ true
    not_other true e = refl
    not_other false e = absurd (let k : false ≡ true = e in cc)

    put : (j : ℕ) (b : Bool) → nat_eq j (index / 16) ≡ b → item_at above j ≡ (if b then after else item_at above j)
    put j true e = ap (item_at above) (eqb-true j (index / 16) e) ∙ sym is ∙ sym (same_moment after least (not_other (option_eq nat_eq after least) same))
    put j false e = refl

pub found_here : (now : ℕ) (moments seen view : List (Option ℕ)) (from high len : ℕ) (found : Option ℕ) → seen ≡ moments → moments ≡ view → length seen ≡ len → high ≤ len → is_some found ≡ true → IsFirstIn now seen from high found
    → IsFirstIn now view from (length view) found
found_here now moments seen view from high len None is same long le some h = absurd (let k : false ≡ true = some in cc)
found_here now moments seen view from high len (Some k) is same long le some h = subst (λ r. IsFirstIn now r from (length r) (Some k)) (is ∙ same) (first_here now seen from high (Some k) k refl (omega arith) h)

pub found_nowhere : (now : ℕ) (above moments seen view : List (Option ℕ)) (from high len : ℕ) (here over found : Option ℕ) → AreLeasts above moments → seen ≡ moments → moments ≡ view → length seen ≡ len
    → (high ≡ from / 16 * 16 + 16) ⊎ (high ≡ len) → is_some here ≡ false → IsFirstIn now seen from high here → over ≡ None → IsFirstIn now above (from / 16 + 1) (length above) over → found ≡ None
    → IsFirstIn now view from (length view) found
found_nowhere now above moments seen view from high len here over found h is same long whole none f none' g e =
    subst (λ r. IsFirstIn now r from (length r) found) same (subst (IsFirstIn now moments from (length moments)) (sym e)
    (first_nowhere now above moments from high here over h (whole_of _ high len _ (omega arith) whole moments (ap length (sym is) ∙ long)) (is_none here none) (subst (λ r. IsFirstIn now r from high here) is f) none' g))

pub found_later : (now : ℕ) (above moments seen seen' view : List (Option ℕ)) (from high j end len : ℕ) (here over found : Option ℕ) → AreLeasts above moments → seen ≡ moments → seen' ≡ moments → moments ≡ view → length seen ≡ len
    → (high ≡ from / 16 * 16 + 16) ⊎ (high ≡ len) → is_some here ≡ false → IsFirstIn now seen from high here → over ≡ Some j → IsFirstIn now above (from / 16 + 1) (length above) over
    → (end ≡ j * 16 + 16) ⊎ (end ≡ len) → IsFirstIn now seen' (j * 16) end found → IsFirstIn now view from (length view) found
found_later now above moments seen seen' view from high j end len here over found h is is' same long whole none f some g whole' last =
    let long' : length moments ≡ len = ap length (sym is) ∙ long in
    subst (λ r. IsFirstIn now r from (length r) found) same
    (first_later now above moments from high j end here over found h (whole_of _ high len _ (omega arith) whole moments long') (is_none here none) (subst (λ r. IsFirstIn now r from high here) is f) some g
    (whole_of _ end len _ (omega arith) whole' moments long') (subst (λ l. IsFirstIn now moments l end found) (let e : j * 16 ≡ 16 * j = omega arith in e) (subst (λ r. IsFirstIn now r (j * 16) end found) is' last)))

pub first_within : (now : ℕ) (above moments : List (Option ℕ)) (low high j : ℕ) (over : Option ℕ) → AreLeasts above moments → over ≡ Some j → IsFirstIn now above low high over → j * 16 < length moments
first_within now above moments low high j over h some g = let (least, within, has) = g.come j some in let k = block_within now above moments j h has in omega arith
