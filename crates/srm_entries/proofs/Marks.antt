-- What a bucket lets go is what is next, so that the entries of a run can be marked in one way alone.
use Rattle.std.proofs.Common.{◌≡◌, ℕ, suc, ◌<◌, Bool, true, false, not, List, [], ◌∷◌, ◌++◌, map, length, drop, refl, ap, sym, ◌∙◌, subst, arith, append_assoc}
use Rattle.std.specs.Prelude.{Option, Some, None, if◌then◌else◌}
use Rattle.std.specs.List.{flat_map, AllByRecursion}
use Rattle.std.proofs.lemmas.Bool.{OnTrue_at}
use Rattle.std.proofs.lemmas.Option.{same_Some}
use Rattle.std.proofs.lemmas.List.{append-nil, drop_at}
use Rattle.srm_names.specs.Histories.{steps, steps_after}
use Rattle.srm_names.proofs.Snoc.{flat_map-snoc}
use Rattle.srm_codec.specs.declared.datagram.Datagram.{Datagram}
use Rattle.srm_bucket.specs.declared.class.Class.{Class}
use Rattle.srm_bucket.specs.declared.class.Class.TheVariants.{Shown, New, Other}
use Rattle.srm_bucket.specs.declared.item.Item.{Item}
use Rattle.srm_bucket.specs.Calls.{Classed, BucketCall, Handed, Popped}
use Rattle.srm_bucket.specs.Classes.{rank, in_class, handed_in, departed_in, handed, departed, queued, first_of_highest, next_queued}
use Rattle.srm_bucket.specs.Law.{BucketLaw, GoesRight as CallRight}
use Rattle.srm_bucket.proofs.Departing.{popping, in_its_own}
use Rattle.srm_entries.specs.Configs.{Config}
use Rattle.srm_entries.specs.declared.entry.Entry.{Entry}
use Rattle.srm_entries.specs.Bucket.{Going, GoesAsCharged, handed_in_by, entries_of, datagrams_of, lets_go, pops, calls_by, bucket_calls}
use Rattle.srm_entries.proofs.Charging.{law_at}
use Rattle.srm_entries.proofs.Cutting.{bucket_calls-append}

-- what is left of each class, and the first of the highest
shown_first : (f : Class → List (Item Datagram)) (x : Item Datagram) (xs : List (Item Datagram)) → f Shown ≡ x ∷ xs → first_of_highest f ≡ Some (record { class = Shown; item = x })
shown_first f x xs e = rw e refl

new_first : (f : Class → List (Item Datagram)) (x : Item Datagram) (xs : List (Item Datagram)) → f Shown ≡ [] → f New ≡ x ∷ xs → first_of_highest f ≡ Some (record { class = New; item = x })
new_first f x xs a e = rw (a, e) refl

other_first : (f : Class → List (Item Datagram)) (x : Item Datagram) (xs : List (Item Datagram)) → f Shown ≡ [] → f New ≡ [] → f Other ≡ x ∷ xs → first_of_highest f ≡ Some (record { class = Other; item = x })
other_first f x xs a b e = rw (a, b, e) refl

module _ (rate depth now : ℕ) (before : List (BucketCall Datagram)) (i : Classed Datagram) (right : CallRight rate depth before (before ++ Popped now (Some i) ∷ []) (Popped now (Some i))) where
  left_here : (k : Class) → i.class ≡ k → (rest : List (Item Datagram)) × (queued before k ≡ i.item ∷ rest)
  left_here k e =
      let (rest, whole) = right.in_order k in
      let went : departed k (before ++ Popped now (Some i) ∷ []) ≡ departed k before ++ i.item ∷ [] = flat_map-snoc (departed_in k) before (Popped now (Some i)) ∙ ap (λ xs. departed k before ++ xs) (subst (λ c. in_class c (Some i) ≡ i.item ∷ []) e (in_its_own i)) in
      let came : handed k (before ++ Popped now (Some i) ∷ []) ≡ handed k before = flat_map-snoc (handed_in k) before (Popped now (Some i)) ∙ append-nil (handed k before) in
      let all : handed k before ≡ departed k before ++ (i.item ∷ rest) = sym came ∙ sym whole ∙ ap (λ xs. xs ++ rest) went ∙ append_assoc (departed k before) (i.item ∷ []) rest in
      (rest, ap (drop (length (departed k before))) all ∙ drop_at (departed k before) (i.item ∷ rest) (length (departed k before)) refl)

  none_higher : (k : Class) → rank k < rank i.class → queued before k ≡ []
  none_higher k higher =
      let same = right.highest_first k higher in
      ap (drop (length (departed k before))) (sym same ∙ sym (append-nil (departed k before))) ∙ drop_at (departed k before) [] (length (departed k before)) refl

  pub pop_is_next : next_queued before ≡ Some i
  pop_is_next = go i.class refl
    where
      below : (j k : Class) → i.class ≡ k → rank j < rank k → rank j < rank i.class
      below j k e l = subst (λ c. rank j < rank c) (sym e) l

      classed_so : (k : Class) → i.class ≡ k → ◌≡◌ {A = Option (Classed Datagram)} (Some (record { class = k; item = i.item })) (Some i)
      classed_so k e = ap (λ c. let x : Classed Datagram = record { class = c; item = i.item } in Some x) (sym e)

      go : (k : Class) → i.class ≡ k → next_queued before ≡ Some i
      go Shown e = let (rest, is) = left_here Shown e in shown_first (queued before) i.item rest is ∙ classed_so Shown e
      go New e = let (rest, is) = left_here New e in new_first (queued before) i.item rest (none_higher Shown (below Shown New e (omega arith))) is ∙ classed_so New e
      go Other e = let (rest, is) = left_here Other e in other_first (queued before) i.item rest (none_higher Shown (below Shown Other e (omega arith))) (none_higher New (below New Other e (omega arith))) is ∙ classed_so Other e

-- as many pops after the same calls let the same go
same_goes : (rate depth now : ℕ) (before : List (BucketCall Datagram)) (xs ys : List (Classed Datagram)) (more others : List (BucketCall Datagram)) → length xs ≡ length ys
    → BucketLaw rate depth (before ++ (popping now xs ++ more)) → BucketLaw rate depth (before ++ (popping now ys ++ others)) → xs ≡ ys
same_goes rate depth now before [] [] more others e law other = refl
same_goes rate depth now before [] (y ∷ ys) more others e law other = absurd (omega (arith, e))
same_goes rate depth now before (x ∷ xs) [] more others e law other = absurd (omega (arith, e))
same_goes rate depth now before (x ∷ xs) (y ∷ ys) more others e law other =
    let first : x ≡ y = same_Some x y (
    sym (pop_is_next rate depth now before x (law_at rate depth before (popping now xs ++ more) (Popped now (Some x)) law))
    ∙ pop_is_next rate depth now before y (law_at rate depth before (popping now ys ++ others) (Popped now (Some y)) other)
    ) in
    let rest = same_goes rate depth now (before ++ Popped now (Some x) ∷ []) xs ys more others (omega (arith, e))
    (subst (BucketLaw rate depth) (sym (append_assoc before (Popped now (Some x) ∷ []) (popping now xs ++ more))) law)
    (subst (λ z. BucketLaw rate depth ((before ++ Popped now (Some z) ∷ []) ++ (popping now ys ++ others))) (sym first) (subst (BucketLaw rate depth) (sym (append_assoc before (Popped now (Some y) ∷ []) (popping now ys ++ others))) other)) in
    ap (λ z. z ∷ xs) first ∙ ap (λ zs. y ∷ zs) rest

length-datagrams : (xs : List (Classed Datagram)) → length (datagrams_of xs) ≡ length xs
length-datagrams [] = refl
length-datagrams (x ∷ xs) = ap suc (length-datagrams xs)

-- one entry
module _ (c : Config) (before : List Going) (e : Entry) (xs ys : List (Classed Datagram)) (more others : List (BucketCall Datagram))
    (right : GoesAsCharged (record { before = before; this = record { entry = e; goes = xs } })) (also : GoesAsCharged (record { before = before; this = record { entry = e; goes = ys } }))
    (law : BucketLaw c.rate c.depth (bucket_calls c.me before ++ (calls_by c.me (record { before = before; this = record { entry = e; goes = xs } }) ++ more)))
    (other : BucketLaw c.rate c.depth (bucket_calls c.me before ++ (calls_by c.me (record { before = before; this = record { entry = e; goes = ys } }) ++ others))) where
  in_tick : (zs : List (Classed Datagram)) (rest : List (BucketCall Datagram)) (b : Bool) → lets_go (record { before = before; this = record { entry = e; goes = zs } }) ≡ b → b ≡ true
      → bucket_calls c.me before ++ (calls_by c.me (record { before = before; this = record { entry = e; goes = zs } }) ++ rest)
      ≡ (bucket_calls c.me before ++ map Handed (handed_in_by c.me (record { before = entries_of before; this = e }))) ++ (popping e.moment zs ++ (Popped e.moment None ∷ rest))
  in_tick zs rest b q t =
      ap (λ (x : Bool). bucket_calls c.me before ++ ((map Handed (handed_in_by c.me (record { before = entries_of before; this = e })) ++ (if x then pops e.moment zs else [])) ++ rest)) (q ∙ t)
      ∙ ap (λ cs. bucket_calls c.me before ++ cs) (append_assoc (map Handed (handed_in_by c.me (record { before = entries_of before; this = e }))) (pops e.moment zs) rest
      ∙ ap (λ cs. map Handed (handed_in_by c.me (record { before = entries_of before; this = e })) ++ cs) (append_assoc (popping e.moment zs) (Popped e.moment None ∷ []) rest))
      ∙ sym (append_assoc (bucket_calls c.me before) (map Handed (handed_in_by c.me (record { before = entries_of before; this = e }))) (popping e.moment zs ++ (Popped e.moment None ∷ rest)))

  same_marks_here : xs ≡ ys
  same_marks_here = go (lets_go (record { before = before; this = record { entry = e; goes = xs } })) refl
    where
      go : (b : Bool) → lets_go (record { before = before; this = record { entry = e; goes = xs } }) ≡ b → xs ≡ ys
      go true q = same_goes c.rate c.depth e.moment (bucket_calls c.me before ++ map Handed (handed_in_by c.me (record { before = entries_of before; this = e }))) xs ys (Popped e.moment None ∷ more) (Popped e.moment None ∷ others)
          (sym (length-datagrams xs) ∙ ap length (right.same ∙ sym also.same) ∙ length-datagrams ys)
          (subst (BucketLaw c.rate c.depth) (in_tick xs more true q refl) law) (subst (BucketLaw c.rate c.depth) (in_tick ys others true q refl) other)
      go false q = OnTrue_at (ap not q) right.at_ticks ∙ sym (OnTrue_at (ap not q) also.at_ticks)

-- two ways to mark the same entries are one
marks_after : (c : Config) (before gs hs : List Going) → entries_of gs ≡ entries_of hs → AllByRecursion GoesAsCharged (steps_after before gs) → AllByRecursion GoesAsCharged (steps_after before hs)
    → BucketLaw c.rate c.depth (bucket_calls c.me (before ++ gs)) → BucketLaw c.rate c.depth (bucket_calls c.me (before ++ hs)) → gs ≡ hs
marks_after c before [] [] same all also law other = refl
marks_after c before [] (y ∷ hs) same all also law other = absurd (cc)
marks_after c before (x ∷ gs) [] same all also law other = absurd (cc)
marks_after c before (x ∷ gs) (y ∷ hs) same all also law other =
    let entry : y.entry ≡ x.entry = cc in
    let tails : entries_of gs ≡ entries_of hs = cc in
    let y_is : y ≡ record { entry = x.entry; goes = y.goes } = ap (λ e. let z : Going = record { entry = e; goes = y.goes } in z) entry in
    let goes : x.goes ≡ y.goes = same_marks_here c before x.entry x.goes y.goes (flat_map (calls_by c.me) (steps_after (before ++ x ∷ []) gs)) (flat_map (calls_by c.me) (steps_after (before ++ y ∷ []) hs))
    all.0 (subst (λ z. GoesAsCharged (record { before = before; this = z })) y_is also.0)
    (subst (BucketLaw c.rate c.depth) (bucket_calls-append c.me before (x ∷ gs)) law)
    (subst (λ z. BucketLaw c.rate c.depth (bucket_calls c.me before ++ (calls_by c.me (record { before = before; this = z }) ++ flat_map (calls_by c.me) (steps_after (before ++ y ∷ []) hs)))) y_is
    (subst (BucketLaw c.rate c.depth) (bucket_calls-append c.me before (y ∷ hs)) other)) in
    let head : x ≡ y = ap (λ g. let z : Going = record { entry = x.entry; goes = g } in z) goes ∙ sym y_is in
    let rest = marks_after c (before ++ x ∷ []) gs hs tails all.1 (subst (λ z. AllByRecursion GoesAsCharged (steps_after (before ++ z ∷ []) hs)) (sym head) also.1)
    (subst (λ zs. BucketLaw c.rate c.depth (bucket_calls c.me zs)) (sym (append_assoc before (x ∷ []) gs)) law)
    (subst (λ z. BucketLaw c.rate c.depth (bucket_calls c.me ((before ++ z ∷ []) ++ hs))) (sym head) (subst (λ zs. BucketLaw c.rate c.depth (bucket_calls c.me zs)) (sym (append_assoc before (y ∷ []) hs)) other)) in
    ap (λ z. z ∷ gs) head ∙ ap (λ zs. y ∷ zs) rest

pub marks_same : (c : Config) (gs hs : List Going) → entries_of gs ≡ entries_of hs → AllByRecursion GoesAsCharged (steps gs) → AllByRecursion GoesAsCharged (steps hs)
    → BucketLaw c.rate c.depth (bucket_calls c.me gs) → BucketLaw c.rate c.depth (bucket_calls c.me hs) → gs ≡ hs
marks_same c gs hs same all also law other = marks_after c [] gs hs same all also law other
