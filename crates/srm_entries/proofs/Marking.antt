-- What a bucket was handed and let go, by class, is what the entries handed in and what went in them.
use Rattle.std.proofs.Common.{◌≡◌, ℕ, Bool, true, false, not, List, [], ◌∷◌, ◌++◌, map, refl, ap, sym, ◌∙◌, subst, inl, inr}
use Rattle.std.specs.Prelude.{Option, Some, None, if◌then◌else◌}
use Rattle.std.specs.List.{flat_map, AllByRecursion}
use Rattle.std.proofs.lemmas.Bool.{OnTrue_at}
use Rattle.std.proofs.lemmas.List.{append-nil, map-append}
use Rattle.std.proofs.lemmas.Grind.{flat_map-append}
use Rattle.srm_names.specs.declared.drawop.Drawop.{Drawop}
use Rattle.srm_names.specs.Histories.{Step, steps}
use Rattle.srm_names.proofs.Lists.{Has, Has-append, Has-map, Has-flat_map, Has-front}
use Rattle.srm_names.proofs.Snoc.{along, steps-snoc, flat_map-snoc}
use Rattle.srm_codec.specs.declared.datagram.Datagram.{Datagram}
use Rattle.srm_codec.specs.Spelling.{length_of}
use Rattle.srm_bucket.specs.declared.class.Class.{Class}
use Rattle.srm_bucket.specs.declared.item.Item.{Item}
use Rattle.srm_bucket.specs.Calls.{Classed, BucketCall, Handed, Popped}
use Rattle.srm_bucket.specs.Classes.{handed_in, departed_in, handed, departed}
use Rattle.srm_bucket.specs.Law.{BucketLaw}
use Rattle.srm_bucket.proofs.Departing.{popping}
use Rattle.srm_entries.specs.Configs.{Config}
use Rattle.srm_entries.specs.declared.entry.Entry.{Entry}
use Rattle.srm_entries.specs.Entries.{shown}
use Rattle.srm_entries.specs.Bucket.{Going, GoesAsCharged, data_item, due_item, requests_and_repairs, handed_in_by, entries_of, lets_go, pops, calls_by, bucket_calls}
use Rattle.srm_entries.specs.Rates.{one_of_class, of_class, handed_so_far, departed_so_far}
use Rattle.srm_entries.proofs.Sending.{went_first, handed_in_entry, popped}

-- one more entry

pub bucket_calls-snoc : (me : ℕ) (before : List Going) (x : Going) → bucket_calls me (before ++ x ∷ []) ≡ bucket_calls me before ++ calls_by me (record { before = before; this = x })
bucket_calls-snoc me before x = ap (flat_map (calls_by me)) (steps-snoc before x) ∙ flat_map-snoc (calls_by me) (steps before) (record { before = before; this = x })

pub entries-snoc : (before : List Going) (x : Going) → entries_of (before ++ x ∷ []) ≡ entries_of before ++ x.entry ∷ []
entries-snoc before x = map-append (λ (g : Going). g.entry) before (x ∷ [])

-- what an entry hands in
abbrev pub hands : ℕ → List Going → Going → List (Classed Datagram)
hands me before x = handed_in_by me (record { before = entries_of before; this = x.entry })

handed_so_far-snoc : (me : ℕ) (before : List Going) (x : Going) → handed_so_far me (entries_of (before ++ x ∷ [])) ≡ handed_so_far me (entries_of before) ++ hands me before x
handed_so_far-snoc me before x =
    ap (handed_so_far me) (entries-snoc before x) ∙ ap (flat_map (handed_in_by me)) (steps-snoc (entries_of before) x.entry)
    ∙ flat_map-snoc (handed_in_by me) (steps (entries_of before)) (record { before = entries_of before; this = x.entry })

-- by class

gone_handed : (class : Class) (items : List (Classed Datagram)) → flat_map (departed_in class) (map Handed items) ≡ []
gone_handed class [] = refl
gone_handed class (i ∷ items) = gone_handed class items

handed_handed : (class : Class) (items : List (Classed Datagram)) → flat_map (handed_in class) (map Handed items) ≡ of_class class items
handed_handed class [] = refl
handed_handed class (i ∷ items) = ap (λ xs. one_of_class class i ++ xs) (handed_handed class items)

gone_popping : (class : Class) (now : ℕ) (goes : List (Classed Datagram)) → flat_map (departed_in class) (popping now goes) ≡ of_class class goes
gone_popping class now [] = refl
gone_popping class now (i ∷ goes) = ap (λ xs. one_of_class class i ++ xs) (gone_popping class now goes)

handed_popping : (class : Class) (now : ℕ) (goes : List (Classed Datagram)) → flat_map (handed_in class) (popping now goes) ≡ []
handed_popping class now [] = refl
handed_popping class now (i ∷ goes) = handed_popping class now goes

gone_pops : (class : Class) (now : ℕ) (goes : List (Classed Datagram)) → departed class (pops now goes) ≡ of_class class goes
gone_pops class now goes = flat_map-append (departed_in class) (popping now goes) (Popped now None ∷ []) ∙ append-nil (flat_map (departed_in class) (popping now goes)) ∙ gone_popping class now goes

handed_pops : (class : Class) (now : ℕ) (goes : List (Classed Datagram)) → handed class (pops now goes) ≡ []
handed_pops class now goes = flat_map-append (handed_in class) (popping now goes) (Popped now None ∷ []) ∙ append-nil (flat_map (handed_in class) (popping now goes)) ∙ handed_popping class now goes

calls_gone : (me : ℕ) (class : Class) (before : List Going) (x : Going) → GoesAsCharged (record { before = before; this = x }) → departed class (calls_by me (record { before = before; this = x })) ≡ of_class class x.goes
calls_gone me class before x right =
    flat_map-append (departed_in class) (map Handed (hands me before x)) (if lets_go (record { before = before; this = x }) then pops x.entry.moment x.goes else [])
    ∙ ap (λ xs. xs ++ departed class (if lets_go (record { before = before; this = x }) then pops x.entry.moment x.goes else [])) (gone_handed class (hands me before x))
    ∙ which (lets_go (record { before = before; this = x })) refl
  where
    which : (b : Bool) → lets_go (record { before = before; this = x }) ≡ b → departed class (if b then pops x.entry.moment x.goes else []) ≡ of_class class x.goes
    which true q = gone_pops class x.entry.moment x.goes
    which false q = sym (ap (of_class class) (OnTrue_at (ap not q) right.at_ticks))

calls_handed : (me : ℕ) (class : Class) (before : List Going) (x : Going) → handed class (calls_by me (record { before = before; this = x })) ≡ of_class class (hands me before x)
calls_handed me class before x =
    flat_map-append (handed_in class) (map Handed (hands me before x)) (if lets_go (record { before = before; this = x }) then pops x.entry.moment x.goes else [])
    ∙ ap (λ xs. flat_map (handed_in class) (map Handed (hands me before x)) ++ xs) (which (lets_go (record { before = before; this = x })))
    ∙ append-nil (flat_map (handed_in class) (map Handed (hands me before x))) ∙ handed_handed class (hands me before x)
  where
    which : (b : Bool) → handed class (if b then pops x.entry.moment x.goes else []) ≡ []
    which true = handed_pops class x.entry.moment x.goes
    which false = refl

pub gone_is : (me : ℕ) (class : Class) (gs : List Going) → AllByRecursion GoesAsCharged (steps gs) → departed class (bucket_calls me gs) ≡ of_class class (departed_so_far gs)
gone_is me class gs all =
    along GoesAsCharged (λ hs. departed class (bucket_calls me hs) ≡ of_class class (departed_so_far hs))
    (λ before x p right.
    ap (departed class) (bucket_calls-snoc me before x)
    ∙ flat_map-append (departed_in class) (bucket_calls me before) (calls_by me (record { before = before; this = x }))
    ∙ rw (p, calls_gone me class before x right)
    (sym (ap (of_class class) (flat_map-snoc (λ (g : Going). g.goes) before x) ∙ flat_map-append (one_of_class class) (departed_so_far before) x.goes)))
    [] gs refl all

pub handed_is : (me : ℕ) (class : Class) (gs : List Going) → AllByRecursion GoesAsCharged (steps gs) → handed class (bucket_calls me gs) ≡ of_class class (handed_so_far me (entries_of gs))
handed_is me class gs all =
    along GoesAsCharged (λ hs. handed class (bucket_calls me hs) ≡ of_class class (handed_so_far me (entries_of hs)))
    (λ before x p right.
    ap (handed class) (bucket_calls-snoc me before x)
    ∙ flat_map-append (handed_in class) (bucket_calls me before) (calls_by me (record { before = before; this = x }))
    ∙ rw (p, calls_handed me class before x)
    (sym (ap (of_class class) (handed_so_far-snoc me before x) ∙ flat_map-append (one_of_class class) (handed_so_far me (entries_of before)) (hands me before x))))
    [] gs refl all

-- in the middle of a tick: the calls before a pop
abbrev pub calls_until : ℕ → List Going → Going → List (Classed Datagram) → List (BucketCall Datagram)
calls_until me before x first = bucket_calls me before ++ (map Handed (hands me before x) ++ popping x.entry.moment first)

pub gone_until : (me : ℕ) (class : Class) (before : List Going) (x : Going) (first : List (Classed Datagram)) → AllByRecursion GoesAsCharged (steps before)
    → departed class (calls_until me before x first) ≡ of_class class (departed_so_far before ++ first)
gone_until me class before x first all =
    flat_map-append (departed_in class) (bucket_calls me before) (map Handed (hands me before x) ++ popping x.entry.moment first)
    ∙ ap (λ xs. departed class (bucket_calls me before) ++ xs)
    (flat_map-append (departed_in class) (map Handed (hands me before x)) (popping x.entry.moment first)
    ∙ ap (λ xs. xs ++ flat_map (departed_in class) (popping x.entry.moment first)) (gone_handed class (hands me before x)) ∙ gone_popping class x.entry.moment first)
    ∙ ap (λ xs. xs ++ of_class class first) (gone_is me class before all)
    ∙ sym (flat_map-append (one_of_class class) (departed_so_far before) first)

pub handed_until : (me : ℕ) (class : Class) (before : List Going) (x : Going) (first : List (Classed Datagram)) → AllByRecursion GoesAsCharged (steps before)
    → handed class (calls_until me before x first) ≡ of_class class (handed_so_far me (entries_of (before ++ x ∷ [])))
handed_until me class before x first all =
    flat_map-append (handed_in class) (bucket_calls me before) (map Handed (hands me before x) ++ popping x.entry.moment first)
    ∙ ap (λ xs. handed class (bucket_calls me before) ++ xs)
    (flat_map-append (handed_in class) (map Handed (hands me before x)) (popping x.entry.moment first)
    ∙ ap (λ xs. flat_map (handed_in class) (map Handed (hands me before x)) ++ xs) (handed_popping class x.entry.moment first)
    ∙ append-nil (flat_map (handed_in class) (map Handed (hands me before x))) ∙ handed_handed class (hands me before x))
    ∙ ap (λ xs. xs ++ of_class class (hands me before x)) (handed_is me class before all)
    ∙ sym (ap (of_class class) (handed_so_far-snoc me before x) ∙ flat_map-append (one_of_class class) (handed_so_far me (entries_of before)) (hands me before x))

-- what goes has the length of its datagram

abbrev HasItsLength : Classed Datagram → Type 0
HasItsLength i = i.item.length ≡ length_of i.item.value

handed_length : (me : ℕ) (s : Step Entry) (j : Classed Datagram) → Has j (handed_in_by me s) → HasItsLength j
handed_length me s j h = elim (Has-append j (data_item s.this.effects.drawn) (map (due_item (shown s.before)) (requests_and_repairs me s)) h) [
  | inl l ↦ of_data s.this.effects.drawn l
  | inr r ↦ (let (g, k, e) = Has-map (due_item (shown s.before)) j (requests_and_repairs me s) r in subst HasItsLength (sym e) refl)
]
  where
    of_data : (o : Option Drawop) → Has j (data_item o) → HasItsLength j
    of_data None h = absurd h
    of_data (Some d) (inl e) = subst HasItsLength (sym e) refl
    of_data (Some d) (inr h) = absurd h

pub went_length : (c : Config) (gs : List Going) → AllByRecursion GoesAsCharged (steps gs) → BucketLaw c.rate c.depth (bucket_calls c.me gs)
    → (i : Classed Datagram) → Has i (departed_so_far gs) → i.item.length ≡ length_of i.item.value
went_length c gs all law i h =
    let (rest, e) = went_first c.rate c.depth (bucket_calls c.me gs) law i.class in
    let inside : Has i.item (handed i.class (bucket_calls c.me gs)) = subst (λ w. Has i.item w) e (Has-front i.item (departed i.class (bucket_calls c.me gs)) rest (popped gs i c.me all h)) in
    let (j, k, q) = handed_in_entry c.me gs i.class i.item inside in
    let (s, there, m) = Has-flat_map (handed_in_by c.me) j (steps (entries_of gs)) k in
    subst (λ (x : Item Datagram). x.length ≡ length_of x.value) q (handed_length c.me s j m)
