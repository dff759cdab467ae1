-- What a member sends as data, it drew.
use Rattle.std.proofs.Common.{◌≡◌, ℕ, ◌==◌, Bool, true, false, List, [], ◌∷◌, ◌++◌, map, refl, ap, sym, ◌∙◌, subst, inl, inr}
use Rattle.std.specs.Prelude.{Option, Some, None, not, option_to_list, option_map, cond, if◌then◌else◌, ◌⊎◌}
use Rattle.std.specs.List.{flat_map, filter_map, cons_option, AllByRecursion}
use Rattle.srm_names.specs.declared.drawop.Drawop.{Drawop}
use Rattle.srm_names.specs.FullName.{FullName}
use Rattle.srm_names.specs.Histories.{Step, steps, steps_after, IsPrefix}
use Rattle.srm_names.proofs.Snoc.{along, flat_map-snoc}
use Rattle.srm_names.proofs.Lists.{Has, Has-append, Has-front, Has-map, map-Has, Has-flat_map, flat_map-Has, Has-steps, Has-step_split, Has-split, Has-back, find-Has, at_parts, steps-append}
use Rattle.srm_codec.specs.declared.datagram.Datagram.{Datagram}
use Rattle.srm_codec.specs.declared.datagram.Datagram.TheVariants.{Data, Request, Repair, Session}
use Rattle.srm_bucket.specs.declared.class.Class.{Class}
use Rattle.srm_bucket.specs.declared.item.Item.{Item}
use Rattle.srm_bucket.specs.Calls.{Classed, BucketCall, Handed, Popped}
use Rattle.srm_bucket.specs.Classes.{rank, in_class, handed_in, departed_in, departed}
use Rattle.srm_bucket.specs.Classes as bucket
use Rattle.srm_bucket.specs.Law.{BucketLaw, GoesRight as CallRight}
use Rattle.srm_bucket.proofs.Departing.{in_its_own}
use Rattle.srm_entries.specs.Configs.{Config}
use Rattle.srm_entries.specs.declared.entry.Entry.{Entry}
use Rattle.srm_store.specs.Held.{has_name}
use Rattle.srm_entries.specs.Entries.{drawn, held, held_by, held_at, shown}
use Rattle.srm_entries.specs.Sessions.{charged}
use Rattle.srm_entries.specs.Rates.{handed_so_far, departed_so_far}
use Rattle.srm_entries.specs.Packing.{is_covered_by, packed_after, packed, mask_of}
use Rattle.srm_entries.specs.Bucket.{Going, GoesAsCharged, BucketRight, repair_for, requests_and_repairs, due_item, data_item, handed_in_by, entries_of, lets_go, pops, calls_by, bucket_calls, datagrams_of}
use Rattle.std.proofs.lemmas.List.{map-append}
use Rattle.std.proofs.lemmas.Bool.{OnTrue_at}
use Rattle.std.proofs.lemmas.Grind.{flat_map-append}

-- what asks are packed into are requests
abbrev IsRequest : Datagram → Type 0
IsRequest (Data d) = ⊥
IsRequest (Request s n m) = Unit {0}
IsRequest (Repair s d) = ⊥
IsRequest (Session a b f p r x) = ⊥

only_requests_in : (me : ℕ) (g : Datagram) (n : FullName) (ns : List FullName) (xs ys : List Datagram) (b : Bool) → (Has g xs → IsRequest g) → (Has g ys → IsRequest g) → Has g (cond b xs (Request me n (mask_of n ns) ∷ ys)) → IsRequest g
only_requests_in me g n ns xs ys true p q h = p h
only_requests_in me g n ns xs ys false p q (inl e) = subst IsRequest (sym e) tt
only_requests_in me g n ns xs ys false p q (inr h) = q h

only_requests_packed : (me : ℕ) (g : Datagram) (last : Option FullName) (asks : List FullName) → Has g (packed_after me last asks) → IsRequest g
only_requests_packed me g last [] h = absurd h
only_requests_packed me g last (n ∷ ns) h =
    only_requests_in me g n ns (packed_after me last ns) (packed_after me (Some n) ns) (is_covered_by last n) (only_requests_packed me g last ns) (only_requests_packed me g (Some n) ns) h

no_data_repair : (me : ℕ) (d : Drawop) (others : List Datagram) (o : Option Drawop) → (Has (Data d) others → ⊥) → Has (Data d) (cons_option (option_map (Repair me) o) others) → ⊥
no_data_repair me d others None p h = p h
no_data_repair me d others (Some x) p (inl e) = cc
no_data_repair me d others (Some x) p (inr h) = p h

no_data_repairs : (me : ℕ) (before : List Entry) (d : Drawop) (fixes : List FullName) → Has (Data d) (filter_map (repair_for me before) fixes) → ⊥
no_data_repairs me before d [] h = h
no_data_repairs me before d (n ∷ ns) h = no_data_repair me d (filter_map (repair_for me before) ns) (held_at before n) (no_data_repairs me before d ns) h

from_data : (d : Drawop) (i : Classed Datagram) (o : Option Drawop) → Has i (data_item o) → i.item.value ≡ Data d → Has d (option_to_list o)
from_data d i None h e = absurd h
from_data d i (Some x) (inl p) e = let q : i.item.value ≡ Data x = ap (λ (j : Classed Datagram). j.item.value) p in inl (cc)
from_data d i (Some x) (inr h) e = absurd h

-- data that a step hands in was drawn in it
from_step : (me : ℕ) (d : Drawop) (s : Step Entry) (i : Classed Datagram) → Has i (handed_in_by me s) → i.item.value ≡ Data d → Has d (option_to_list s.this.effects.drawn)
from_step me d s i h e = elim (Has-append i (data_item s.this.effects.drawn) (map (due_item (shown s.before)) (requests_and_repairs me s)) h) [
  | inl l ↦ from_data d i s.this.effects.drawn l e
  | inr r ↦ absurd (none (Has-map (due_item (shown s.before)) i (requests_and_repairs me s) r))
]
  where
    none : ((g : Datagram) × Has g (requests_and_repairs me s) × (i ≡ due_item (shown s.before) g)) → ⊥
    none (g, k, q) =
        let same : g ≡ Data d = sym (ap (λ (j : Classed Datagram). j.item.value) q) ∙ e in
        elim (Has-append (Data d) (packed me s.this.effects.asks) (filter_map (repair_for me s.before) s.this.effects.fixes) (subst (λ w. Has w (requests_and_repairs me s)) same k)) [
          | inl l ↦ only_requests_packed me (Data d) None s.this.effects.asks l
          | inr r ↦ no_data_repairs me s.before d s.this.effects.fixes r
        ]

-- data that was handed in was drawn
handed_data : (me : ℕ) (d : Drawop) (es : List Entry) (i : Classed Datagram) → Has i (handed_so_far me es) → i.item.value ≡ Data d → Has d (drawn es)
handed_data me d es i h e =
    let (s, k, m) = Has-flat_map (handed_in_by me) i (steps es) h in
    flat_map-Has (λ (x : Entry). option_to_list x.effects.drawn) d s.this es (Has-steps s [] es k) (from_step me d s i m e)

-- what went, by class, was handed in
pub went_first : (rate depth : ℕ) (calls : List (BucketCall Datagram)) → BucketLaw rate depth calls → (class : Class) → IsPrefix (departed class calls) (bucket.handed class calls)
went_first rate depth calls law =
    along (λ s. CallRight rate depth s.before (s.before ++ s.this ∷ []) s.this) (λ cs. (class : Class) → IsPrefix (departed class cs) (bucket.handed class cs))
    (λ before call p right. right.in_order) [] calls (λ class. ([], refl)) law

pub in_its_class : (i : Classed Datagram) → Has i.item (in_class i.class (Some i))
in_its_class i = subst (Has i.item) (sym (in_its_own i)) (inl refl)

class_of_one : (class : Class) (x : Item Datagram) (i : Classed Datagram) → Has x (in_class class (Some i)) → x ≡ i.item
class_of_one class x i h = go (rank i.class == rank class) h
  where
    go : (b : Bool) → Has x (if b then i.item ∷ [] else []) → x ≡ i.item
    go true (inl e) = e
    go true (inr e) = absurd e
    go false e = absurd e

-- what goes in an entry was popped
pub popped : (gs : List Going) (i : Classed Datagram) (me : ℕ) → AllByRecursion GoesAsCharged (steps gs) → Has i (departed_so_far gs) → Has i.item (departed i.class (bucket_calls me gs))
popped gs i me all h =
    let (g, k, m) = Has-flat_map (λ (x : Going). x.goes) i gs h in
    let (before, after, q) = Has-split g gs k in
    let right : GoesAsCharged (record { before = before; this = g }) = (at_parts GoesAsCharged before (g ∷ after) (subst (λ w. AllByRecursion GoesAsCharged (steps w)) q all)).1.0 in
    let there : Has (record { before = before; this = g }) (steps gs) = subst (λ w. Has (record { before = before; this = g }) (steps w)) (sym q)
    (subst (λ w. Has (record { before = before; this = g }) w) (sym (steps-append before (g ∷ after))) (Has-back (record { before = before; this = g }) (steps before) (steps_after before (g ∷ after)) (inl refl))) in
    flat_map-Has (departed_in i.class) i.item (Popped g.entry.moment (Some i)) (bucket_calls me gs)
    (flat_map-Has (calls_by me) (Popped g.entry.moment (Some i)) (record { before = before; this = g }) (steps gs) there (at before g right m (lets_go (record { before = before; this = g })) refl))
    (in_its_class i)
  where
    at : (before : List Going) (g : Going) → GoesAsCharged (record { before = before; this = g }) → Has i g.goes → (b : Bool) → lets_go (record { before = before; this = g }) ≡ b
        → Has (Popped g.entry.moment (Some i)) (calls_by me (record { before = before; this = g }))
    at before g right m true e =
        Has-back (Popped g.entry.moment (Some i)) (map Handed (handed_in_by me (record { before = entries_of before; this = g.entry }))) (if lets_go (record { before = before; this = g }) then pops g.entry.moment g.goes else [])
        (rw e (Has-front (Popped g.entry.moment (Some i)) (map (λ (x : Classed Datagram). Popped g.entry.moment (Some x)) g.goes) (Popped g.entry.moment None ∷ []) (map-Has (λ (x : Classed Datagram). Popped g.entry.moment (Some x)) i g.goes m)))
    at before g right m false e = absurd (subst (λ w. Has i w) (OnTrue_at (ap not e) right.at_ticks) m)

step_of_entries_after : (s : Step Going) (before gs : List Going) → Has s (steps_after before gs) → Has (record { before = entries_of s.before; this = s.this.entry }) (steps_after (entries_of before) (entries_of gs))
step_of_entries_after s before [] h = h
step_of_entries_after s before (g ∷ gs) (inl e) = inl (ap (λ (t : Step Going). record { before = entries_of t.before; this = t.this.entry }) e)
step_of_entries_after s before (g ∷ gs) (inr h) =
    inr (subst (λ w. Has (record { before = entries_of s.before; this = s.this.entry }) (steps_after w (entries_of gs))) (map-append (λ (x : Going). x.entry) before (g ∷ [])) (step_of_entries_after s (before ++ g ∷ []) gs h))

step_of_entries : (s : Step Going) (gs : List Going) → Has s (steps gs) → Has (record { before = entries_of s.before; this = s.this.entry }) (steps (entries_of gs))
step_of_entries s gs h = step_of_entries_after s [] gs h

-- what was handed in to the bucket, an entry handed in
pub handed_in_entry : (me : ℕ) (gs : List Going) (class : Class) (x : Item Datagram) → Has x (bucket.handed class (bucket_calls me gs)) → (j : Classed Datagram) × Has j (handed_so_far me (entries_of gs)) × (j.item ≡ x)
handed_in_entry me gs class x h =
    let (call, k, m) = Has-flat_map (handed_in class) x (bucket_calls me gs) h in
    let (s, p, q) = Has-flat_map (calls_by me) call (steps gs) k in
    by s call p (Has-append call (map Handed (handed_in_by me (record { before = entries_of s.before; this = s.this.entry }))) (if lets_go s then pops s.this.entry.moment s.this.goes else []) q) m
  where
    never : (now : ℕ) (goes : List (Classed Datagram)) (b : Bool) (call : BucketCall Datagram) → Has call (if b then pops now goes else []) → Has x (handed_in class call) → ⊥
    never now goes false call h m = h
    never now goes true call h m = elim (Has-append call (map (λ (y : Classed Datagram). Popped now (Some y)) goes) (Popped now None ∷ []) h) [
      | inl l ↦ (let (y, w, e) = Has-map (λ (y : Classed Datagram). Popped now (Some y)) call goes l in subst (λ c. Has x (handed_in class c)) e m)
      | inr r ↦ elim r [ inl e ↦ subst (λ c. Has x (handed_in class c)) e m | inr f ↦ f ]
    ]

    by : (s : Step Going) (call : BucketCall Datagram) → Has s (steps gs) → Has call (map Handed (handed_in_by me (record { before = entries_of s.before; this = s.this.entry }))) ⊎ Has call (if lets_go s then pops s.this.entry.moment s.this.goes else [])
        → Has x (handed_in class call) → (j : Classed Datagram) × Has j (handed_so_far me (entries_of gs)) × (j.item ≡ x)
    by s call p (inl l) m =
        let (j, w, e) = Has-map Handed call (handed_in_by me (record { before = entries_of s.before; this = s.this.entry })) l in
        let same : x ≡ j.item = class_of_one class x j (subst (λ c. Has x (handed_in class c)) e m) in
        (j, flat_map-Has (handed_in_by me) j (record { before = entries_of s.before; this = s.this.entry }) (steps (entries_of gs)) (step_of_entries s gs p) w, sym same)
    by s call p (inr r) m = absurd (never s.this.entry.moment s.this.goes (lets_go s) call r m)

item_handed : (c : Config) (gs : List Going) (i : Classed Datagram) → AllByRecursion GoesAsCharged (steps gs) → BucketLaw c.rate c.depth (bucket_calls c.me gs) → Has i (departed_so_far gs)
    → (j : Classed Datagram) × Has j (handed_so_far c.me (entries_of gs)) × (j.item.value ≡ i.item.value)
item_handed c gs i all law h =
    let (rest, e) = went_first c.rate c.depth (bucket_calls c.me gs) law i.class in
    let inside : Has i.item (bucket.handed i.class (bucket_calls c.me gs)) = subst (λ w. Has i.item w) e (Has-front i.item (departed i.class (bucket_calls c.me gs)) rest (popped gs i c.me all h)) in
    let (j, k, q) = handed_in_entry c.me gs i.class i.item inside in
    (j, k, ap (λ (x : Item Datagram). x.value) q)

-- what went is what was charged
pub went_is_charged : (gs : List Going) → AllByRecursion GoesAsCharged (steps gs) → datagrams_of (departed_so_far gs) ≡ flat_map charged (entries_of gs)
went_is_charged gs all =
    along GoesAsCharged (λ hs. datagrams_of (departed_so_far hs) ≡ flat_map charged (entries_of hs))
    (λ before x p right.
    ap datagrams_of (flat_map-snoc (λ (g : Going). g.goes) before x)
    ∙ map-append (λ (i : Classed Datagram). i.item.value) (departed_so_far before) x.goes
    ∙ rw (p, right.same) (sym (ap (flat_map charged) (map-append (λ (g : Going). g.entry) before (x ∷ [])) ∙ flat_map-snoc charged (entries_of before) x.entry)))
    [] gs refl all

-- what was sent was handed in
sent_was_handed : (c : Config) (gs : List Going) (g : Datagram) → AllByRecursion GoesAsCharged (steps gs) → BucketLaw c.rate c.depth (bucket_calls c.me gs) → Has g (flat_map charged (entries_of gs))
    → (j : Classed Datagram) × Has j (handed_so_far c.me (entries_of gs)) × (j.item.value ≡ g)
sent_was_handed c gs g all law h =
    let went : Has g (datagrams_of (departed_so_far gs)) = subst (λ w. Has g w) (sym (went_is_charged gs all)) h in
    let (i, k, q) = Has-map (λ (x : Classed Datagram). x.item.value) g (departed_so_far gs) went in
    let (j, m, r) = item_handed c gs i all law k in
    (j, m, r ∙ sym q)

-- data that was sent was drawn
pub data_sent_was_drawn : (c : Config) (es : List Entry) (d : Drawop) → BucketRight c es → Has (Data d) (flat_map charged es) → Has d (drawn es)
data_sent_was_drawn c es d (gs, e, all, law) h =
    let (j, m, r) = sent_was_handed c gs (Data d) all law (subst (λ w. Has (Data d) (flat_map charged w)) (sym e) h) in
    subst (λ w. Has d (drawn w)) e (handed_data c.me d (entries_of gs) j m r)

-- a repair is of a drawop that is held
repair_held : (me s : ℕ) (before : List Entry) (d : Drawop) (n : FullName) (others : List Datagram) (o : Option Drawop) → held_at before n ≡ o → (Has (Repair s d) others → Has d (held before)) → Has (Repair s d) (cons_option (option_map (Repair me) o) others) → Has d (held before)
repair_held me s before d n others None q more h = more h
repair_held me s before d n others (Some x) q more (inl e) =
    let same : d ≡ x = cc in subst (λ w. Has w (held before)) (sym same) (find-Has (has_name n) (held before) x q).0
repair_held me s before d n others (Some x) q more (inr h) = more h

repairs_held : (me s : ℕ) (before : List Entry) (d : Drawop) (fixes : List FullName) → Has (Repair s d) (filter_map (repair_for me before) fixes) → Has d (held before)
repairs_held me s before d [] h = absurd h
repairs_held me s before d (n ∷ ns) h = repair_held me s before d n (filter_map (repair_for me before) ns) (held_at before n) refl (repairs_held me s before d ns) h

no_repair_data : (s : ℕ) (d : Drawop) (i : Classed Datagram) (o : Option Drawop) → Has i (data_item o) → i.item.value ≡ Repair s d → ⊥
no_repair_data s d i None h e = h
no_repair_data s d i (Some x) (inl p) e = let q : i.item.value ≡ Data x = ap (λ (j : Classed Datagram). j.item.value) p in cc
no_repair_data s d i (Some x) (inr h) e = h

-- a repair that a step hands in is of a drawop that was held before it
repair_from_step : (me s : ℕ) (d : Drawop) (t : Step Entry) (i : Classed Datagram) → Has i (handed_in_by me t) → i.item.value ≡ Repair s d → Has d (held t.before)
repair_from_step me s d t i h e = elim (Has-append i (data_item t.this.effects.drawn) (map (due_item (shown t.before)) (requests_and_repairs me t)) h) [
  | inl l ↦ absurd (no_repair_data s d i t.this.effects.drawn l e)
  | inr r ↦ of_these (Has-map (due_item (shown t.before)) i (requests_and_repairs me t) r)
]
  where
    of_these : ((g : Datagram) × Has g (requests_and_repairs me t) × (i ≡ due_item (shown t.before) g)) → Has d (held t.before)
    of_these (g, k, q) =
        let same : g ≡ Repair s d = sym (ap (λ (j : Classed Datagram). j.item.value) q) ∙ e in
        elim (Has-append (Repair s d) (packed me t.this.effects.asks) (filter_map (repair_for me t.before) t.this.effects.fixes) (subst (λ w. Has w (requests_and_repairs me t)) same k)) [
          | inl l ↦ absurd (only_requests_packed me (Repair s d) None t.this.effects.asks l)
          | inr r ↦ repairs_held me s t.before d t.this.effects.fixes r
        ]

handed_repair : (me s : ℕ) (d : Drawop) (es : List Entry) (i : Classed Datagram) → Has i (handed_so_far me es) → i.item.value ≡ Repair s d → Has d (held es)
handed_repair me s d es i h e =
    let (t, k, m) = Has-flat_map (handed_in_by me) i (steps es) h in
    let (rest, q) = Has-step_split t [] es k in
    subst (λ w. Has d (held w)) (sym q) (subst (λ w. Has d w) (sym (flat_map-append held_by t.before (t.this ∷ rest))) (Has-front d (held t.before) (held (t.this ∷ rest)) (repair_from_step me s d t i m e)))

-- a repair that was sent is of a drawop that its sender held
pub repair_sent_was_held : (c : Config) (es : List Entry) (s : ℕ) (d : Drawop) → BucketRight c es → Has (Repair s d) (flat_map charged es) → Has d (held es)
repair_sent_was_held c es s d (gs, e, all, law) h =
    let (j, m, r) = sent_was_handed c gs (Repair s d) all law (subst (λ w. Has (Repair s d) (flat_map charged w)) (sym e) h) in
    subst (λ w. Has d (held w)) e (handed_repair c.me s d (entries_of gs) j m r)
