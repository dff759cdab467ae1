-- What a member hands to its bucket goes, once nothing waits there; and what goes was handed in since nothing waited.
use Rattle.std.proofs.Common.{◌≡◌, ℕ, ◌+◌, ◌≤◌, ◌==◌, Bool, true, false, List, [], ◌∷◌, ◌++◌, length, map, refl, ap, sym, ◌∙◌, subst, arith, inl, inr, append_assoc, length-append}
use Rattle.std.specs.Prelude.{if◌then◌else◌}
use Rattle.std.specs.List.{flat_map, AllByRecursion}
use Rattle.std.proofs.lemmas.Bool.{leb-true}
use Rattle.std.proofs.lemmas.List.{append_cancel_left}
use Rattle.std.proofs.lemmas.Grind.{flat_map-append}
use Rattle.srm_names.specs.Histories.{Step, steps, steps_after, IsPrefix}
use Rattle.srm_names.proofs.Lists.{Has, Has-front, Has-back, map-Has, Has-map, Has-flat_map, flat_map-Has, at_parts, map-split, steps-append, front_whole}
use Rattle.srm_codec.specs.declared.datagram.Datagram.{Datagram}
use Rattle.srm_bucket.specs.declared.class.Class.{Class}
use Rattle.srm_bucket.specs.declared.class.Class.TheVariants.{Shown, New, Other}
use Rattle.srm_bucket.specs.declared.item.Item.{Item}
use Rattle.srm_bucket.specs.Calls.{Classed}
use Rattle.srm_bucket.specs.Classes.{rank}
use Rattle.srm_bucket.specs.Law.{BucketLaw}
use Rattle.srm_entries.specs.Configs.{Config}
use Rattle.srm_entries.specs.declared.entry.Entry.{Entry}
use Rattle.srm_entries.specs.Sessions.{charged}
use Rattle.srm_entries.specs.Bucket.{Going, GoesAsCharged, BucketRight, handed_in_by, entries_of, calls_by, bucket_calls}
use Rattle.srm_entries.specs.Rates.{one_of_class, of_class, handed_so_far, departed_so_far}
use Rattle.srm_entries.proofs.Cutting.{bucket_calls-append, law_part}
use Rattle.srm_entries.proofs.Sending.{went_first, in_its_class, went_is_charged}
use Rattle.srm_entries.proofs.Marking.{gone_is, handed_is}
use Rattle.srm_recovery.specs.Members.{nothing_waits}

-- how many items there are of the three classes

with_one : (k : Class) (item : Item Datagram) (a b c : List (Item Datagram)) (n : ℕ) → n ≡ length a + length b + length c
    → n + 1 ≡ length ((if rank k == rank Shown then item ∷ [] else []) ++ a) + length ((if rank k == rank New then item ∷ [] else []) ++ b) + length ((if rank k == rank Other then item ∷ [] else []) ++ c)
with_one Shown item a b c n e = omega arith
with_one New item a b c n e = omega arith
with_one Other item a b c n e = omega arith

pub sizes : (is : List (Classed Datagram)) → length is ≡ length (of_class Shown is) + length (of_class New is) + length (of_class Other is)
sizes [] = refl
sizes (i ∷ is) =
    let more : length (i ∷ is) ≡ length is + 1 = omega arith in
    more ∙ with_one i.class i.item (of_class Shown is) (of_class New is) (of_class Other is) (length is) (sizes is)

front_shorter : {X : Type 0} (xs ys : List X) → IsPrefix xs ys → length xs ≤ length ys
front_shorter xs ys (rest, e) = let k : length ys ≡ length xs + length rest = ap length (sym e) ∙ length-append xs rest in omega arith

-- where no more was handed in than went, all of it went
all_went : (ds hs : List (Classed Datagram)) → ((class : Class) → IsPrefix (of_class class ds) (of_class class hs)) → length hs ≤ length ds → (class : Class) → of_class class ds ≡ of_class class hs
all_went ds hs front l class = front_whole (of_class class ds) (of_class class hs) (front class) (no_longer class)
  where
    no_longer : (class : Class) → length (of_class class hs) ≤ length (of_class class ds)
    no_longer class =
        let d = sizes ds in
        let h = sizes hs in
        let a = front_shorter (of_class Shown ds) (of_class Shown hs) (front Shown) in
        let b = front_shorter (of_class New ds) (of_class New hs) (front New) in
        let c = front_shorter (of_class Other ds) (of_class Other hs) (front Other) in
        which class (omega (arith, d, h, a, b, c)) (omega (arith, d, h, a, b, c)) (omega (arith, d, h, a, b, c))
      where
        which : (class : Class) → length (of_class Shown hs) ≤ length (of_class Shown ds) → length (of_class New hs) ≤ length (of_class New ds) → length (of_class Other hs) ≤ length (of_class Other ds)
            → length (of_class class hs) ≤ length (of_class class ds)
        which Shown x y z = x
        which New x y z = y
        which Other x y z = z

went_in_order : (c : Config) (gs : List Going) → AllByRecursion GoesAsCharged (steps gs) → BucketLaw c.rate c.depth (bucket_calls c.me gs)
    → (class : Class) → IsPrefix (of_class class (departed_so_far gs)) (of_class class (handed_so_far c.me (entries_of gs)))
went_in_order c gs all law class =
    let (rest, e) = went_first c.rate c.depth (bucket_calls c.me gs) law class in
    (rest, ap (λ ys. ys ++ rest) (sym (gone_is c.me class gs all)) ∙ e ∙ handed_is c.me class gs all)

-- so many went
length-map : {X Y : Type 0} (f : X → Y) (xs : List X) → length (map f xs) ≡ length xs
length-map f [] = refl
length-map f (x ∷ xs) = let k = length-map f xs in omega (arith, k)

pub departed_many : (gs : List Going) → AllByRecursion GoesAsCharged (steps gs) → length (departed_so_far gs) ≡ length (flat_map charged (entries_of gs))
departed_many gs all = sym (length-map (λ (i : Classed Datagram). i.item.value) (departed_so_far gs)) ∙ ap length (went_is_charged gs all)

-- what the later entries hand in
abbrev handed_later : ℕ → List Entry → List Entry → List (Classed Datagram)
handed_later me ps qs = flat_map (handed_in_by me) (steps_after ps qs)

-- the entries of a run in two parts, and what went in each
record InParts (c : Config) (ps qs : List Entry) : Type 0 where
  pub us : List Going
  pub vs : List Going
  pub front : entries_of us ≡ ps
  pub back : entries_of vs ≡ qs
  pub here : AllByRecursion GoesAsCharged (steps us)
  pub there : AllByRecursion GoesAsCharged (steps_after us vs)
  pub many : length (departed_so_far us ++ departed_so_far vs) ≡ length (flat_map charged (ps ++ qs))
  pub early : (class : Class) → IsPrefix (of_class class (departed_so_far us)) (of_class class (handed_so_far c.me ps))
  pub whole : (class : Class) → IsPrefix (of_class class (departed_so_far us ++ departed_so_far vs)) (of_class class (handed_so_far c.me ps ++ handed_later c.me ps qs))

in_parts : (c : Config) (ps qs : List Entry) → BucketRight c (ps ++ qs) → InParts c ps qs
in_parts c ps qs (gs, e, all, law) =
    let (us, vs, p, q, r) = map-split (λ (g : Going). g.entry) gs ps qs e in
    let both = at_parts GoesAsCharged us vs (subst (λ w. AllByRecursion GoesAsCharged (steps w)) p all) in
    let law_here : BucketLaw c.rate c.depth (bucket_calls c.me us) =
    law_part c.rate c.depth (bucket_calls c.me us) (flat_map (calls_by c.me) (steps_after us vs)) (subst (λ w. BucketLaw c.rate c.depth w) (ap (bucket_calls c.me) p ∙ bucket_calls-append c.me us vs) law) in
    let departs : departed_so_far gs ≡ departed_so_far us ++ departed_so_far vs = ap departed_so_far p ∙ flat_map-append (λ (g : Going). g.goes) us vs in
    let hands : handed_so_far c.me (entries_of gs) ≡ handed_so_far c.me ps ++ handed_later c.me ps qs =
    ap (handed_so_far c.me) e ∙ ap (flat_map (handed_in_by c.me)) (steps-append ps qs) ∙ flat_map-append (handed_in_by c.me) (steps ps) (steps_after ps qs) in
    record {
      us = us;
      vs = vs;
      front = q;
      back = r;
      here = both.0;
      there = both.1;
      many = ap length (sym departs) ∙ departed_many gs all ∙ ap (λ w. length (flat_map charged w)) e;
      early = λ class. subst (λ w. IsPrefix (of_class class (departed_so_far us)) (of_class class (handed_so_far c.me w))) q (went_in_order c us both.0 law_here class);
      whole = λ class. subst (λ w. IsPrefix (of_class class w) (of_class class (handed_so_far c.me ps ++ handed_later c.me ps qs))) departs
          (subst (λ w. IsPrefix (of_class class (departed_so_far gs)) (of_class class w)) hands (went_in_order c gs all law class));
    }

pub item_is : (class : Class) (x : Item Datagram) (i : Classed Datagram) → Has x (one_of_class class i) → x ≡ i.item
item_is class x i h = go (rank i.class == rank class) h
  where
    go : (b : Bool) → Has x (if b then i.item ∷ [] else []) → x ≡ i.item
    go true (inl e) = e
    go true (inr e) = absurd e
    go false e = absurd e

pub in_its_class_of : (i : Classed Datagram) (is : List (Classed Datagram)) → Has i is → Has i.item (of_class i.class is)
in_its_class_of i is h = flat_map-Has (one_of_class i.class) i.item i is h (in_its_class i)

going_there : (us vs : List Going) (g : Going) → AllByRecursion GoesAsCharged (steps_after us vs) → Has g vs → (before : List Going) × GoesAsCharged (record { before = before; this = g })
going_there us [] g all h = absurd h
going_there us (v ∷ vs) g all (inl e) = (us, subst (λ w. GoesAsCharged (record { before = us; this = w })) (sym e) all.0)
going_there us (v ∷ vs) g all (inr h) = going_there (us ++ v ∷ []) vs g all.1 h

-- What the later entries hand in goes in one of them, where nothing waits at their end.
pub goes_on : (c : Config) (ps qs : List Entry) → BucketRight c (ps ++ qs) → nothing_waits c.me (ps ++ qs) ≡ true → (s : Step Entry) → Has s (steps_after ps qs)
    → (i : Classed Datagram) → Has i (handed_in_by c.me s) → (y : Entry) × Has y qs × Has i.item.value (charged y)
goes_on c ps qs right none s there i h =
    let p = in_parts c ps qs right in
    let k : List (Item Datagram) = of_class i.class (departed_so_far p.us) in
    let (rest, e) = p.early i.class in
    let whole : of_class i.class (departed_so_far p.us ++ departed_so_far p.vs) ≡ of_class i.class (handed_so_far c.me ps ++ handed_later c.me ps qs) =
    all_went (departed_so_far p.us ++ departed_so_far p.vs) (handed_so_far c.me ps ++ handed_later c.me ps qs) p.whole (few p) i.class in
    let later : k ++ of_class i.class (departed_so_far p.vs) ≡ k ++ (rest ++ of_class i.class (handed_later c.me ps qs)) =
    sym (flat_map-append (one_of_class i.class) (departed_so_far p.us) (departed_so_far p.vs)) ∙ whole
    ∙ flat_map-append (one_of_class i.class) (handed_so_far c.me ps) (handed_later c.me ps qs)
    ∙ ap (λ w. w ++ of_class i.class (handed_later c.me ps qs)) (sym e) ∙ append_assoc k rest (of_class i.class (handed_later c.me ps qs)) in
    let same : of_class i.class (departed_so_far p.vs) ≡ rest ++ of_class i.class (handed_later c.me ps qs) = append_cancel_left k _ _ later in
    let item : Has i.item (of_class i.class (handed_later c.me ps qs)) = in_its_class_of i (handed_later c.me ps qs) (flat_map-Has (handed_in_by c.me) i s (steps_after ps qs) there h) in
    let (j, m, q) = Has-flat_map (one_of_class i.class) i.item (departed_so_far p.vs) (subst (λ w. Has i.item w) (sym same) (Has-back i.item rest _ item)) in
    let is : i.item ≡ j.item = item_is i.class i.item j q in
    let (g, n, o) = Has-flat_map (λ (x : Going). x.goes) j p.vs m in
    let (before, goes) = going_there p.us p.vs g p.there n in (
      g.entry,
      subst (λ w. Has g.entry w) p.back (map-Has (λ (x : Going). x.entry) g p.vs n),
      subst (λ w. Has w (charged g.entry)) (ap (λ (x : Item Datagram). x.value) (sym is)) (subst (λ w. Has j.item.value w) goes.same (map-Has (λ (x : Classed Datagram). x.item.value) j g.goes o)),
    )
  where
    few : (p : InParts c ps qs) → length (handed_so_far c.me ps ++ handed_later c.me ps qs) ≤ length (departed_so_far p.us ++ departed_so_far p.vs)
    few p =
        let l : length (handed_so_far c.me (ps ++ qs)) ≤ length (flat_map charged (ps ++ qs)) = leb-true (length (handed_so_far c.me (ps ++ qs))) (length (flat_map charged (ps ++ qs))) none in
        let h : length (handed_so_far c.me ps ++ handed_later c.me ps qs) ≡ length (handed_so_far c.me (ps ++ qs)) =
        ap length (sym (ap (flat_map (handed_in_by c.me)) (steps-append ps qs) ∙ flat_map-append (handed_in_by c.me) (steps ps) (steps_after ps qs))) in
        omega (arith, l, h, p.many)

-- What goes in the later entries, one of them handed in, where nothing waits before them.
pub handed_since : (c : Config) (ps qs : List Entry) → BucketRight c (ps ++ qs) → nothing_waits c.me ps ≡ true → (y : Entry) → Has y qs → (g : Datagram) → Has g (charged y)
    → (s : Step Entry) × Has s (steps_after ps qs) × (i : Classed Datagram) × Has i (handed_in_by c.me s) × (i.item.value ≡ g)
handed_since c ps qs right none y there g h =
    let p = in_parts c ps qs right in
    let (x, n, same) = Has-map (λ (x : Going). x.entry) y p.vs (subst (λ w. Has y w) (sym p.back) there) in
    let (before, goes) = going_there p.us p.vs x p.there n in
    let (j, o, value) = Has-map (λ (i : Classed Datagram). i.item.value) g x.goes (subst (λ w. Has g w) (ap charged same ∙ sym goes.same) h) in
    let k : List (Item Datagram) = of_class j.class (departed_so_far p.us) in
    let went : k ≡ of_class j.class (handed_so_far c.me ps) = all_went (departed_so_far p.us) (handed_so_far c.me ps) p.early (few p) j.class in
    let (rest, e) = p.whole j.class in
    let later : k ++ (of_class j.class (departed_so_far p.vs) ++ rest) ≡ k ++ of_class j.class (handed_later c.me ps qs) =
    sym (append_assoc k (of_class j.class (departed_so_far p.vs)) rest)
    ∙ ap (λ w. w ++ rest) (sym (flat_map-append (one_of_class j.class) (departed_so_far p.us) (departed_so_far p.vs))) ∙ e
    ∙ flat_map-append (one_of_class j.class) (handed_so_far c.me ps) (handed_later c.me ps qs)
    ∙ ap (λ w. w ++ of_class j.class (handed_later c.me ps qs)) (sym went) in
    let item : Has j.item (of_class j.class (departed_so_far p.vs)) = in_its_class_of j (departed_so_far p.vs) (flat_map-Has (λ (z : Going). z.goes) j x p.vs n o) in
    let handed : Has j.item (of_class j.class (handed_later c.me ps qs)) = subst (λ w. Has j.item w) (append_cancel_left k _ _ later) (Has-front j.item _ rest item) in
    let (i, m, q) = Has-flat_map (one_of_class j.class) j.item (handed_later c.me ps qs) handed in
    let is : j.item ≡ i.item = item_is j.class j.item i q in
    let (s, a, b) = Has-flat_map (handed_in_by c.me) i (steps_after ps qs) m in
    (s, a, i, b, ap (λ (z : Item Datagram). z.value) (sym is) ∙ sym value)
  where
    few : (p : InParts c ps qs) → length (handed_so_far c.me ps) ≤ length (departed_so_far p.us)
    few p =
        let l : length (handed_so_far c.me ps) ≤ length (flat_map charged ps) = leb-true (length (handed_so_far c.me ps)) (length (flat_map charged ps)) none in
        let d : length (departed_so_far p.us) ≡ length (flat_map charged ps) = departed_many p.us p.here ∙ ap (λ w. length (flat_map charged w)) p.front in
        omega arith
