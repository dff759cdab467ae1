-- No continuation of records goes past an order of them that is stuck.
use Rattle.std.proofs.Common.{◌≡◌, ℕ, zero, suc, ◌==◌, ◌+◌, ◌≤◌, ◌<◌, Bool, true, false, ◌&&◌, List, [], ◌∷◌, ◌++◌, length, refl, ap, sym, ◌∙◌, subst, inl, inr, arith, append_assoc, length-append}
use Rattle.std.specs.Prelude.{Option, Some, None, cond, slice_get, IfSome, IsSome, Contains}
use Rattle.std.specs.List.{AllByRecursion}
use Rattle.std.proofs.lemmas.Bool.{cases_lt, ne_eqb, eq-eqb, and_right}
use Rattle.std.proofs.lemmas.List.{append-nil}
use Rattle.std.proofs.lemmas.Option.{none-some, same_Some}
use Rattle.srm_names.specs.Histories.{steps_after, IsPrefix}
use Rattle.srm_names.proofs.Lists.{Has, Has-flat_map, flat_map-Has, Has-filter, Has-front, Has-contained, All-Has, front_of_front, slice_get-front, Has-Contains, at_end}
use Rattle.srm_codec.specs.declared.datagram.Datagram.{Datagram}
use Rattle.srm_codec.specs.Spelling.{sender_of}
use Rattle.srm_entries.specs.declared.entry.Entry.{Entry}
use Rattle.srm_entries.specs.Entries.{sent}
use Rattle.srm_world.specs.Traces.{of_member}
use Rattle.srm_world.proofs.Honesty.{IsHonestStep}
use Rattle.srm_world.proofs.Members.{Has-of_member, of_member-append}
use Rattle.srm_gaps.specs.declared.told.Told.{Told}
use Rattle.srm_gaps.specs.Possible.{calls_told, may_miss, is_free, next_told, HearsImpossible, AreStuck, IsStuckAt, SendsOwn, Continues, HasNoContinuation}

-- of two prefixes of one list the shorter is a prefix of the other
front_of_longer : {X : Type 0} (xs ys a b : List X) → xs ++ a ≡ ys ++ b → length xs ≤ length ys → IsPrefix xs ys
front_of_longer [] ys a b e l = (ys, refl)
front_of_longer (x ∷ xs) [] a b e l = absurd (omega arith)
front_of_longer {X = X} (x ∷ xs) (y ∷ ys) a b e l =
    let (rest, q) = front_of_longer xs ys a b (tail e) (omega arith) in (rest, head q e)
  where
    tail : {z y : X} {us vs : List X} → z ∷ us ≡ y ∷ vs → us ≡ vs
    tail e = cc

    head : {z y : X} {us vs ws zs : List X} → us ≡ ws → z ∷ zs ≡ y ∷ vs → z ∷ us ≡ y ∷ ws
    head q e = cc

pub front_length : {X : Type 0} (xs ys : List X) → IsPrefix xs ys → length xs ≤ length ys
front_length xs ys (rest, e) = let l : length xs + length rest ≡ length ys = sym (length-append xs rest) ∙ ap length e in omega (arith, l)

pub past_end : {X : Type 0} (xs : List X) (k : ℕ) → slice_get xs k ≡ None → length xs ≤ k
past_end [] k e = omega arith
past_end (x ∷ xs) zero e = absurd (cc)
past_end (x ∷ xs) (suc k) e = let l = past_end xs k e in omega (arith, l)

pub within_list : {X : Type 0} (xs : List X) (k : ℕ) → IsSome (slice_get xs k) → k < length xs
within_list [] k h = absurd (cc)
within_list (x ∷ xs) zero h = omega arith
within_list (x ∷ xs) (suc k) h = let l = within_list xs k h in omega arith

all_but : (b c : Bool) → c ≡ true → (b && c) ≡ false → b ≡ false
all_but true c t f = sym t ∙ f
all_but false c t f = refl

-- each member that did nothing untold behind the stuck order has no more calls in these entries than in it
abbrev NoMore : List Told → List Entry → List Entry → Type 0
NoMore ts es before = (m : ℕ) → is_free ts es m ≡ false → length (of_member m before) ≤ length (of_member m es)

-- then what such a member sent in these entries was sent in the stuck order
sent_then : (ts : List Told) (es ys before after : List Entry) (g : Datagram) → AreStuck ts es → Continues ts ys → ys ≡ before ++ after → NoMore ts es before → is_free ts es (sender_of g) ≡ false → Has g (sent before) → Has g (sent es)
sent_then ts es ys before after g stuck goes split less known there =
    let (e, in_before, out) = Has-flat_map (λ (x : Entry). x.effects.outs) g before there in
    let in_ys : Has e ys = subst (Has e) (sym split) (Has-front e before after in_before) in
    let mine : sender_of g ≡ e.member = All-Has (λ (h : Datagram). sender_of h ≡ e.member) g e.effects.outs (All-Has SendsOwn e ys goes.own in_ys) out in
    let few : length (of_member e.member before) ≤ length (of_member e.member es) = less e.member (subst (λ (m : ℕ). is_free ts es m ≡ false) mine known) in
    let one : of_member e.member before ++ of_member e.member after ≡ of_member e.member ys = sym (of_member-append e.member before after) ∙ ap (of_member e.member) (sym split) in
    let other : IsPrefix (of_member e.member es) (of_member e.member ys) = front_of_front (of_member e.member es) (calls_told ts e.member) (of_member e.member ys) (stuck.prefixes e.member) (goes.front e.member) in
    let front : IsPrefix (of_member e.member before) (of_member e.member es) = front_of_longer (of_member e.member before) (of_member e.member es) (of_member e.member after) other.0 (one ∙ sym other.1) few in
    flat_map-Has (λ (x : Entry). x.effects.outs) g e es
    (Has-filter (λ (x : Entry). x.member == e.member) e es (front_Has e (of_member e.member before) (of_member e.member es) front (Has-of_member e before in_before))) out
  where
    front_Has : (x : Entry) (xs zs : List Entry) → IsPrefix xs zs → Has x xs → Has x zs
    front_Has x xs zs (rest, e) h = subst (Has x) e (Has-front x xs rest h)

-- the next entry of a continuation isn't one at which the order is stuck
not_next : (ts : List Told) (es ys before after : List Entry) (e : Entry) → AreStuck ts es → Continues ts ys → ys ≡ before ++ after → NoMore ts es before → IsHonestStep (record { before = before; this = e }) → ¬ (HearsImpossible ts es e)
not_next ts es ys before after e stuck goes split less honest (g, is, unsent, known) =
    unsent (Has-Contains g (sent es) (sent_then ts es ys before after g stuck goes split less known
    (Has-contained g (sent before) (subst (λ o. IfSome o (Contains (sent before))) is honest))))

no_more_step : (ts : List Told) (es ys before after : List Entry) (e : Entry) → AreStuck ts es → Continues ts ys → ys ≡ before ++ e ∷ after → NoMore ts es before → IsHonestStep (record { before = before; this = e }) → NoMore ts es (before ++ e ∷ [])
no_more_step ts es ys before after e stuck goes split less honest m known =
    subst (λ n. n ≤ length (of_member m es)) (sym (ap length (of_member-append m before (e ∷ [])))) (which (e.member == m) refl)
  where
    own : e.member == m ≡ true → of_member m (before ++ e ∷ []) ≡ of_member m before ++ e ∷ []
    own is = of_member-append m before (e ∷ []) ∙ ap (λ b. of_member m before ++ cond b (e ∷ []) []) is

    here : e.member == m ≡ true → slice_get (of_member m ys) (length (of_member m before)) ≡ Some e
    here is = slice_get-front (of_member m before ++ e ∷ []) (of_member m ys) (length (of_member m before)) e
        (of_member m after, ap (λ xs. xs ++ of_member m after) (sym (own is)) ∙ sym (of_member-append m (before ++ e ∷ []) after) ∙ ap (of_member m) (append_assoc before (e ∷ []) after ∙ sym split))
        (at_end (of_member m before) e)

    past : e.member == m ≡ true → length (of_member m es) ≤ length (of_member m before) → ⊥
    past is l = at (next_told ts es m) refl
      where
        same : length (of_member m before) ≡ length (of_member m es)
        same = omega (arith, less m known, l)

        at : (o : Option Entry) → next_told ts es m ≡ o → ⊥
        at (Some x) next =
            let there : slice_get (of_member m ys) (length (of_member m es)) ≡ Some x = slice_get-front (calls_told ts m) (of_member m ys) (length (of_member m es)) x (goes.front m) next in
            let this : x ≡ e = same_Some x e (sym there ∙ ap (slice_get (of_member m ys)) (sym same) ∙ here is) in
            not_next ts es ys before (e ∷ after) e stuck goes split less honest (subst (λ o. IfSome o (HearsImpossible ts es)) (next ∙ ap Some this) (stuck.waits m))
        at None next =
            let short : length (calls_told ts m) ≤ length (of_member m es) = past_end (calls_told ts m) (length (of_member m es)) next in
            let long : length (of_member m es) ≤ length (calls_told ts m) = front_length (of_member m es) (calls_told ts m) (stuck.prefixes m) in
            let whole : may_miss ts m ≡ false = all_but (may_miss ts m) (length (of_member m es) == length (calls_told ts m)) (eq-eqb (length (of_member m es)) (length (calls_told ts m)) (omega (arith, short, long))) known in
            none-some e (sym next ∙ ap (λ xs. slice_get xs (length (of_member m es))) (sym (goes.whole m whole)) ∙ ap (slice_get (of_member m ys)) (sym same) ∙ here is)

    which : (b : Bool) → e.member == m ≡ b → length (of_member m before ++ cond b (e ∷ []) []) ≤ length (of_member m es)
    which false is = rw append-nil (less m known)
    which true is = elim (cases_lt (length (of_member m before)) (length (of_member m es))) [
      | inl l ↦ rw length-append (omega arith)
      | inr l ↦ absurd (past is l)
    ]

no_more_along : (ts : List Told) (es ys before rest : List Entry) → AreStuck ts es → Continues ts ys → ys ≡ before ++ rest → AllByRecursion IsHonestStep (steps_after before rest) → NoMore ts es before → NoMore ts es ys
no_more_along ts es ys before [] stuck goes split honest less = subst (NoMore ts es) (sym (split ∙ append-nil before)) less
no_more_along ts es ys before (e ∷ rest) stuck goes split honest less =
    no_more_along ts es ys (before ++ e ∷ []) rest stuck goes (split ∙ sym (append_assoc before (e ∷ []) rest)) honest.1 (no_more_step ts es ys before rest e stuck goes split less honest.0)

pub no_continuation : (ts : List Told) (member entry : ℕ) → IsStuckAt ts member entry → HasNoContinuation ts
no_continuation ts member entry at ys goes =
    let l : length (of_member member at.es) < length (calls_told ts member) = within_list (calls_told ts member) (length (of_member member at.es)) at.left in
    let known : is_free ts at.es member ≡ false = and_right (may_miss ts member) (length (of_member member at.es) == length (calls_told ts member)) (ne_eqb (length (of_member member at.es)) (length (calls_told ts member)) (λ e. absurd (omega (arith, l, e)))) in
    let few : length (of_member member ys) ≤ length (of_member member at.es) = no_more_along ts at.es ys [] ys at.stuck goes refl goes.honest (λ m k. omega arith) member known in
    let many : length (calls_told ts member) ≤ length (of_member member ys) = front_length (calls_told ts member) (of_member member ys) (goes.front member) in
    absurd (omega (arith, l, few, many))
