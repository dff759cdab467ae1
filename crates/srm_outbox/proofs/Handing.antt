-- Requests and repairs are handed in, one after the other, and the bucket lets go until nothing goes.
use Rattle.std.proofs.Common.{◌≡◌, ℕ, ◌+◌, ◌<◌, ◌≤◌, Bool, true, false, List, [], ◌∷◌, ◌++◌, length, drop, map, refl, ap, sym, ◌∙◌, subst, arith, append_assoc, length-append}
use Rattle.std.specs.Prelude.{◌==◌, Option, Some, None, option_map, if◌then◌else◌}
use Rattle.std.specs.List.{AllByRecursion}
use Rattle.std.proofs.lemmas.List.{append-nil, map-append}
use Rattle.srm_names.proofs.Lists.{AllByRecursion-parts, AllByRecursion-append}
use Rattle.srm_bucket.specs.declared.class.Class.{Class}
use Rattle.srm_bucket.specs.declared.class.Class.TheVariants.{Shown, New, Other}
use Rattle.srm_bucket.specs.declared.item.Item.{Item}
use Rattle.srm_bucket.specs.Calls.{Classed, BucketCall, Handed, Popped}
use Rattle.srm_bucket.specs.Classes.{rank, in_class}
use Rattle.srm_bucket.specs.Content.{BucketContent}
use Rattle.srm_bucket.specs.Fits.{BucketFits, BucketAdds, Pops}
use Rattle.srm_bucket.specs.Law.{may_go}
use Rattle.srm_bucket.specs.Waiting.{Waiting, HasLength, Gains, TakesNext, queue, next_in, count_of}
use Rattle.srm_bucket.proofs.Departing.{popping, in_its_own}
use Rattle.srm_outbox.specs.declared.due_items.DueItem.{DueItem}
use Rattle.srm_outbox.specs.declared.out.Outgoing.{Outgoing}
use Rattle.srm_outbox.specs.Outs.{IsOwn, AreOwn}
use Rattle.srm_outbox.specs.DueItems.{classed_of}
use Rattle.srm_outbox.specs.Outbox.{Passes, WentContent, NothingWent, HandsIn, LetsGo}

-- a queue whose pop returned nothing is empty
pub drained : {X : Type 0} (xs ys : List X) → xs ≡ ys → ys ≡ drop 1 xs → xs ≡ []
drained [] ys e f = refl
drained (x ∷ xs) ys e f = (let k : length (x ∷ xs) ≡ length xs = ap length (e ∙ f) in absurd (omega arith))

-- handing in

all-class : (P : Item Outgoing → Type 0) (class : Class) (c : Classed Outgoing) → P c.item → AllByRecursion P (in_class class (Some c))
all-class P class c p = go (rank c.class == rank class)
  where
    go : (b : Bool) → AllByRecursion P (if b then c.item ∷ [] else [])
    go true = (p, tt)
    go false = tt

-- an item of the member behind those of its class
pub own_behind : (me session : ℕ) (c : Classed Outgoing) (old new : Waiting Outgoing) → AreOwn me session old → Gains c old new → IsOwn me session c.item.value → AreOwn me session new
own_behind me session c old new own gains one = record {
  each = λ class. subst (AllByRecursion (λ i. IsOwn me session i.value)) (sym (gains class))
      (AllByRecursion-append (λ i. IsOwn me session i.value) (queue old class) (in_class class (Some c)) (own.each class) (all-class (λ i. IsOwn me session i.value) class c one));
}

count-of-class : (class : Class) (item : Item Outgoing) (old new : Waiting Outgoing) → Gains (record { class = class; item = item }) old new → count_of new ≡ count_of old + 1
count-of-class Shown item old new h = omega (arith, ap length (h Shown), ap length (h New), ap length (h Other), length-append old.shown (item ∷ []), length-append old.new_data [], length-append old.other [])
count-of-class New item old new h = omega (arith, ap length (h Shown), ap length (h New), ap length (h Other), length-append old.shown [], length-append old.new_data (item ∷ []), length-append old.other [])
count-of-class Other item old new h = omega (arith, ap length (h Shown), ap length (h New), ap length (h Other), length-append old.shown [], length-append old.new_data [], length-append old.other (item ∷ []))

pub hands_nothing : (b : BucketContent Outgoing) → HandsIn [] b b
hands_nothing b = record {
  fits = λ rate depth calls f. subst (λ cs. BucketFits rate depth cs b) (sym (append-nil calls)) f;
  own = λ me session own all. own;
  count = omega arith;
}

hands_more : (done : List DueItem) (a : DueItem) (old now new : BucketContent Outgoing) → HandsIn done old now → BucketAdds (Handed (classed_of a)) now new → Gains (classed_of a) now.waiting new.waiting → HandsIn (done ++ a ∷ []) old new
hands_more done a old now new h adds gains = record {
  fits = λ rate depth calls f.
      subst (λ cs. BucketFits rate depth cs new) (append_assoc calls (map Handed (map classed_of done)) (Handed (classed_of a) ∷ []) ∙ ap (λ cs. calls ++ cs) (sym (ap (map Handed) (map-append classed_of done (a ∷ [])) ∙ map-append Handed (map classed_of done) (classed_of a ∷ []))))
      (adds.fits rate depth (calls ++ map Handed (map classed_of done)) (h.fits rate depth calls f));
  own = λ me session own all. (let k = AllByRecursion-parts (λ (x : DueItem). IsOwn me session x.item.value) done (a ∷ []) all in
      own_behind me session (classed_of a) now.waiting new.waiting (h.own me session own k.0) gains k.1.0);
  count = let one : count_of new.waiting ≡ count_of now.waiting + 1 = count-of-class a.class a.item now.waiting new.waiting gains in
      omega (arith, h.count, length-append done (a ∷ []));
}

-- A loop has handed in some of the due items, and has the others left, with room for them.
pub record HandedSoFar (due_items left : List DueItem) (old now : BucketContent Outgoing) : Type 0 where
  pub done : List DueItem
  pub split : done ++ left ≡ due_items
  pub hands : HandsIn done old now
  pub lengths : AllByRecursion (λ a. HasLength a.item) left
  pub room : length left ≤ now.waiting.room

pub handing_begins : (due_items : List DueItem) (b : BucketContent Outgoing) → AllByRecursion (λ a. HasLength a.item) due_items → length due_items ≤ b.waiting.room → HandedSoFar due_items due_items b b
handing_begins due_items b lengths room = record { done = []; split = refl; hands = hands_nothing b; lengths = lengths; room = room }

pub handing_goes_on : (due_items left rest : List DueItem) (a : DueItem) (old now new : BucketContent Outgoing) → left ≡ a ∷ rest → HandedSoFar due_items left old now → BucketAdds (Handed (classed_of a)) now new → Gains (classed_of a) now.waiting new.waiting
    → now.waiting.room ≤ new.waiting.room + 1 → HandedSoFar due_items rest old new
handing_goes_on due_items left rest a old now new e h adds gains room = record {
  done = h.done ++ a ∷ [];
  split = append_assoc h.done (a ∷ []) rest ∙ ap (λ xs. h.done ++ xs) (sym e) ∙ h.split;
  hands = hands_more h.done a old now new h.hands adds gains;
  lengths = (subst (AllByRecursion (λ x. HasLength x.item)) e h.lengths).1;
  room = omega (arith, h.room, ap length e);
}

pub handing_length : (due_items left rest : List DueItem) (a : DueItem) (old now : BucketContent Outgoing) → left ≡ a ∷ rest → HandedSoFar due_items left old now → HasLength a.item
handing_length due_items left rest a old now e h = (subst (AllByRecursion (λ x. HasLength x.item)) e h.lengths).0

pub handing_room : (due_items left rest : List DueItem) (a : DueItem) (old now : BucketContent Outgoing) → left ≡ a ∷ rest → HandedSoFar due_items left old now → 0 < now.waiting.room
handing_room due_items left rest a old now e h = omega (arith, h.room, ap length e)

pub handing_ends : (due_items left : List DueItem) (old now : BucketContent Outgoing) → left ≡ [] → HandedSoFar due_items left old now → HandsIn due_items old now
handing_ends due_items left old now e h = subst (λ as_. HandsIn as_ old now) (sym (append-nil h.done) ∙ ap (λ xs. h.done ++ xs) (sym e) ∙ h.split) h.hands

-- letting go

pub record Going (rate depth now : ℕ) (calls : List (BucketCall Outgoing)) (items : List Outgoing) (b : BucketContent Outgoing) : Type 0 where
  pub goes : List (Classed Outgoing)
  pub items_are : map (λ i. i.item.value) goes ≡ items
  pub fits : BucketFits rate depth (calls ++ popping now goes) b

pub record WentSoFar (now : ℕ) (old b : BucketContent Outgoing) (went : WentContent) : Type 0 where
  pub items : List Outgoing
  pub outs : went.outs ≡ map (λ o. o.out) items
  pub noted : went.noted ≡ map (λ o. o.noted) items
  pub fits : (rate depth : ℕ) (calls : List (BucketCall Outgoing)) → BucketFits rate depth calls old → Going rate depth now calls items b
  pub own : (me session : ℕ) → AreOwn me session old.waiting → AllByRecursion (IsOwn me session) items
  pub left : (me session : ℕ) → AreOwn me session old.waiting → AreOwn me session b.waiting
  pub room : count_of b.waiting < went.room

pub going_begins : (now : ℕ) (b : BucketContent Outgoing) (went : WentContent) → NothingWent went → count_of b.waiting < went.room → WentSoFar now b b went
going_begins now b went none room = record {
  items = [];
  outs = none.outs;
  noted = none.noted;
  fits = λ rate depth calls f. record { goes = []; items_are = refl; fits = subst (λ cs. BucketFits rate depth cs b) (sym (append-nil calls)) f };
  own = λ me session own. tt;
  left = λ me session own. own;
  room = room;
}

popped_is : (item : Item Outgoing) (o : Option (Classed Outgoing)) → Some item ≡ option_map (λ c. c.item) o → (c : Classed Outgoing) × (o ≡ Some c) × (c.item ≡ item)
popped_is item None e = absurd (cc)
popped_is item (Some c) e = (c, refl, cc)

pops_one : (rate depth now : ℕ) (calls : List (BucketCall Outgoing)) (items : List Outgoing) (b new : BucketContent Outgoing) (item : Item Outgoing) → Going rate depth now calls items b → Pops now b (Some item) new → Going rate depth now calls (items ++ item.value ∷ []) new
pops_one rate depth now calls items b new item g pops =
    let (c, is, same) = popped_is item (may_go rate depth (calls ++ popping now g.goes) now) (pops.value rate depth (calls ++ popping now g.goes) g.fits) in
    record {
      goes = g.goes ++ c ∷ [];
      items_are = map-append (λ (i : Classed Outgoing). i.item.value) g.goes (c ∷ []) ∙ ap (λ xs. xs ++ c.item.value ∷ []) g.items_are ∙ ap (λ (i : Item Outgoing). items ++ i.value ∷ []) same;
      fits = subst (λ cs. BucketFits rate depth cs new) (append_assoc calls (popping now g.goes) (Popped now (Some c) ∷ []) ∙ ap (λ cs. calls ++ cs) (sym (map-append (λ (i : Classed Outgoing). Popped now (Some i)) g.goes (c ∷ []))))
          (subst (λ o. BucketFits rate depth ((calls ++ popping now g.goes) ++ Popped now o ∷ []) new) is (pops.fits rate depth (calls ++ popping now g.goes) g.fits));
    }

-- what is taken is among what waited
taken : (P : Item Outgoing → Type 0) (old new : Waiting Outgoing) (item : Item Outgoing) → TakesNext old (Some item) new → ((class : Class) → AllByRecursion P (queue old class)) → P item
taken P old new item t all = go (next_in old) refl
  where
    go : (o : Option (Classed Outgoing)) → next_in old ≡ o → P item
    go None e = let k : None ≡ Some item = ap (option_map (λ (c : Classed Outgoing). c.item)) (sym e) ∙ t.0 in absurd (cc)
    go (Some c) e =
        let same : c.item ≡ item = (let k : Some c.item ≡ Some item = ap (option_map (λ (x : Classed Outgoing). x.item)) (sym e) ∙ t.0 in cc) in
        let split : queue old c.class ≡ c.item ∷ queue new c.class = t.1 c.class ∙ ap (λ x. in_class c.class x ++ queue new c.class) e ∙ ap (λ xs. xs ++ queue new c.class) (in_its_own c) in
        subst P same (subst (AllByRecursion P) split (all c.class)).0

remaining : (P : Item Outgoing → Type 0) (old new : Waiting Outgoing) (item : Item Outgoing) → TakesNext old (Some item) new → ((class : Class) → AllByRecursion P (queue old class)) → (class : Class) → AllByRecursion P (queue new class)
remaining P old new item t all class = (AllByRecursion-parts P (in_class class (next_in old)) (queue new class) (subst (AllByRecursion P) (t.1 class) (all class))).1

pub going_goes_on : (now : ℕ) (old b new : BucketContent Outgoing) (went more : WentContent) (item : Item Outgoing) → WentSoFar now old b went → Pops now b (Some item) new → TakesNext b.waiting (Some item) new.waiting
    → count_of new.waiting + 1 ≡ count_of b.waiting → more.outs ≡ went.outs ++ item.value.out ∷ [] → more.noted ≡ went.noted ++ item.value.noted ∷ [] → went.room ≤ more.room + 1 → WentSoFar now old new more
going_goes_on now old b new went more item h pops takes fewer outs noted room = record {
  items = h.items ++ item.value ∷ [];
  outs = outs ∙ ap (λ xs. xs ++ item.value.out ∷ []) h.outs ∙ sym (map-append (λ (o : Outgoing). o.out) h.items (item.value ∷ []));
  noted = noted ∙ ap (λ xs. xs ++ item.value.noted ∷ []) h.noted ∙ sym (map-append (λ (o : Outgoing). o.noted) h.items (item.value ∷ []));
  fits = λ rate depth calls f. pops_one rate depth now calls h.items b new item (h.fits rate depth calls f) pops;
  own = λ me session own. AllByRecursion-append (IsOwn me session) h.items (item.value ∷ []) (h.own me session own) (taken (λ i. IsOwn me session i.value) b.waiting new.waiting item takes (h.left me session own).each, tt);
  left = λ me session own. record { each = remaining (λ i. IsOwn me session i.value) b.waiting new.waiting item takes (h.left me session own).each };
  room = omega (arith, h.room);
}

pub going_room : (now : ℕ) (old b new : BucketContent Outgoing) (went : WentContent) → WentSoFar now old b went → count_of new.waiting + 1 ≡ count_of b.waiting → 0 < went.room
going_room now old b new went h fewer = omega (arith, h.room)

nothing_popped : (o : Option (Classed Outgoing)) → None ≡ option_map (λ c. c.item) o → o ≡ None
nothing_popped None e = refl
nothing_popped (Some c) e = absurd (cc)

pub going_ends : (now : ℕ) (old b new : BucketContent Outgoing) (went : WentContent) → WentSoFar now old b went → Pops now b None new → TakesNext b.waiting None new.waiting → LetsGo now old new went
going_ends now old b new went h pops takes = record {
  items = h.items;
  outs = h.outs;
  noted = h.noted;
  fits = λ rate depth calls f. (let g = h.fits rate depth calls f in
      let is = nothing_popped (may_go rate depth (calls ++ popping now g.goes) now) (pops.value rate depth (calls ++ popping now g.goes) g.fits) in
      record {
        goes = g.goes;
        items_are = g.items_are;
        fits = subst (λ cs. BucketFits rate depth cs new) (append_assoc calls (popping now g.goes) (Popped now None ∷ []))
            (subst (λ o. BucketFits rate depth ((calls ++ popping now g.goes) ++ Popped now o ∷ []) new) is (pops.fits rate depth (calls ++ popping now g.goes) g.fits));
      });
  own = h.own;
  left = λ me session own. record { each = λ class. subst (AllByRecursion (λ i. IsOwn me session i.value)) (sym (takes class)) ((h.left me session own).each class) };
  room = omega (arith, h.room);
}

-- a pop at a moment at which nothing may go
pub pop_passes : (now : ℕ) (old new : BucketContent Outgoing) (answer : Option (Item Outgoing)) → Pops now old answer new → TakesNext old.waiting answer new.waiting → Passes now old new
pop_passes now old new None pops takes = record {
  fits = λ rate depth calls h none. subst (λ o. BucketFits rate depth (calls ++ Popped now o ∷ []) new) none (pops.fits rate depth calls h);
  left = λ me session own. record { each = λ class. subst (AllByRecursion (λ i. IsOwn me session i.value)) (sym (takes class)) (own.each class) };
}
pop_passes now old new (Some item) pops takes = record {
  fits = λ rate depth calls h none. subst (λ o. BucketFits rate depth (calls ++ Popped now o ∷ []) new) none (pops.fits rate depth calls h);
  left = λ me session own. record { each = remaining (λ i. IsOwn me session i.value) old.waiting new.waiting item takes own.each };
}
