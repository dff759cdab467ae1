-- While a member's rate pays for what it has, a tick leaves nothing waiting in its bucket.
use Rattle.std.proofs.Common.{◌≡◌, ℕ, ◌==◌, ◌+◌, ◌*◌, ◌-◌, ◌≤◌, ◌<◌, min, Bool, true, false, not, ◌&&◌, List, [], ◌∷◌, ◌++◌, length, map, drop, refl, ap, sym, ◌∙◌, subst, arith, inl, inr, append_assoc, length-append}
use Rattle.std.specs.Prelude.{◌⊎◌, Option, Some, None, nat_le, filter, if◌then◌else◌, IfSome, Contains}
use Rattle.std.specs.List.{flat_map, AllByRecursion}
use Rattle.std.proofs.lemmas.Bool.{OnTrue_at, cases_lt, le-leb}
use Rattle.std.proofs.lemmas.Bool.Decides.{nat_tests}
use Rattle.std.proofs.lemmas.List.{append-nil, append_cancel_left}
use Rattle.std.proofs.lemmas.List.Elements.{filter-append}
use Rattle.std.proofs.lemmas.Grind.{flat_map-append}
use Rattle.std.proofs.Math.Nat.{mul-add, mul-le-mul_left, mul-zero}
use Rattle.srm_names.specs.declared.drawop.Drawop.{Drawop}
use Rattle.srm_names.specs.Histories.{Step, steps, or_else}
use Rattle.srm_names.proofs.Lists.{Has, Has-append, Has-back, Has-front, Has-map, Has-flat_map, Has-split, Has-Contains, Has-contained, All-Has, at_parts, map-split}
use Rattle.srm_codec.specs.declared.datagram.Datagram.{Datagram}
use Rattle.srm_codec.specs.Spelling.{length_of}
use Rattle.srm_bucket.specs.declared.class.Class.{Class}
use Rattle.srm_bucket.specs.declared.class.Class.TheVariants.{Shown, New, Other}
use Rattle.srm_bucket.specs.declared.item.Item.{Item}
use Rattle.srm_bucket.specs.Admitting.{cost_of_all}
use Rattle.srm_bucket.specs.Calls.{Classed}
use Rattle.srm_bucket.specs.Classes.{rank, first_in, first_of_highest}
use Rattle.srm_bucket.specs.Ticks.{Tick, charge, level, cost, IsWithin}
use Rattle.srm_bucket.specs.Tokens.{cost_of}
use Rattle.srm_bucket.proofs.Highest.{next-same}
use Rattle.srm_bucket.proofs.Windows.{charge-snoc, level-later, level-spent, spent-within}
use Rattle.srm_entries.specs.Configs.{Config}
use Rattle.srm_entries.specs.declared.entry.Entry.{Entry}
use Rattle.srm_entries.specs.Entries.{ticked, state, is_gone, shown, last_moment}
use Rattle.srm_entries.specs.Sessions.{charged}
use Rattle.srm_entries.specs.Bucket.{Going, GoesAsCharged, entries_of, datagrams_of, lets_go, data_item, due_item, requests_and_repairs, handed_in_by}
use Rattle.srm_entries.specs.Rates.{one_of_class, of_class, handed_so_far, departed_so_far, queued_of, cost_all, tick_in, ticks_of, RightAt}
use Rattle.srm_entries.specs.Runs.{EntryRight, IsMemberRun}
use Rattle.srm_entries.proofs.Charging.{within_later}
use Rattle.srm_entries.proofs.Marking.{entries-snoc, went_length}
use Rattle.srm_entries.proofs.Rating.{rate_law}
use Rattle.srm_entries.proofs.Sending.{went_is_charged}
use Rattle.srm_entries.proofs.Spending.{charged_along, charged_start, tick_is_last}
use Rattle.srm_world.specs.declared.start.Start.{Start}
use Rattle.srm_world.specs.Traces.{Trace, of_member, IsRunOfMember}
use Rattle.srm_recovery.specs.Members.{EntryWithin, nothing_waits}
use Rattle.srm_recovery.specs.Emptying.{price, EmptyingLaw}
use Rattle.srm_recovery.proofs.Ordering.{tail_same, tick_moves, right_at, rising, comes_before}
use Rattle.srm_recovery.proofs.Emptying.{sizes, item_is, departed_many, in_its_class_of}
use Rattle.srm_recovery.proofs.Sharing.{run_to}
use Rattle.srm_recovery.proofs.Asking.{present_before, true_false}

-- sums of costs

cost-both : (xs ys : List (Item Datagram)) → cost_of_all (xs ++ ys) ≡ cost_of_all xs + cost_of_all ys
cost-both [] ys = omega arith
cost-both (x ∷ xs) ys = let k = cost-both xs ys in omega (arith, k)

with_price : (k : Class) (item : Item Datagram) (a b c : List (Item Datagram)) (n : ℕ) → n ≡ cost_of_all a + cost_of_all b + cost_of_all c
    → cost_of item.length + n ≡ cost_of_all ((if rank k == rank Shown then item ∷ [] else []) ++ a) + cost_of_all ((if rank k == rank New then item ∷ [] else []) ++ b) + cost_of_all ((if rank k == rank Other then item ∷ [] else []) ++ c)
with_price Shown item a b c n e = omega arith
with_price New item a b c n e = omega arith
with_price Other item a b c n e = omega arith

by_class : (is : List (Classed Datagram)) → price is ≡ cost_of_all (of_class Shown is) + cost_of_all (of_class New is) + cost_of_all (of_class Other is)
by_class [] = refl
by_class (i ∷ is) = with_price i.class i.item (of_class Shown is) (of_class New is) (of_class Other is) (price is) (by_class is)

price_is : (is : List (Classed Datagram)) → ((i : Classed Datagram) → Has i is → i.item.length ≡ length_of i.item.value) → price is ≡ cost_all (datagrams_of is)
price_is [] all = refl
price_is (i ∷ is) all = ap (λ n. cost_of n + price is) (all i (inl refl)) ∙ ap (λ n. cost_of (length_of i.item.value) + n) (price_is is (λ x h. all x (inr h)))

all-both : (xs ys : List Datagram) → cost_all (xs ++ ys) ≡ cost_all xs + cost_all ys
all-both [] ys = omega arith
all-both (x ∷ xs) ys = let k = all-both xs ys in omega (arith, k)

-- ticks are charged no more than went
ticks_charge : (es : List Entry) → charge (ticks_of es) ≤ cost_all (flat_map charged es)
ticks_charge [] = omega arith
ticks_charge (e ∷ es) = go (ticked e) (ticks_charge es) (all-both (charged e) (flat_map charged es))
  where
    go : (b : Bool) → charge (ticks_of es) ≤ cost_all (flat_map charged es) → cost_all (charged e ++ flat_map charged es) ≡ cost_all (charged e) + cost_all (flat_map charged es)
        → charge ((if b then record { moment = e.moment; cost = cost_all (charged e) } ∷ [] else []) ++ ticks_of es) ≤ cost_all (charged e ++ flat_map charged es)
    go true l q = omega (arith, l, q)
    go false l q = omega (arith, l, q)

drop_front : {X : Type 0} (xs ys : List X) → drop (length xs) (xs ++ ys) ≡ ys
drop_front [] ys = refl
drop_front (x ∷ xs) ys = drop_front xs ys

-- what is handed in has its length

pub handed_length : (me : ℕ) (s : Step Entry) (j : Classed Datagram) → Has j (handed_in_by me s) → j.item.length ≡ length_of j.item.value
handed_length me s j h = elim (Has-append j (data_item s.this.effects.drawn) (map (due_item (shown s.before)) (requests_and_repairs me s)) h) [
  | inl l ↦ of_data s.this.effects.drawn l
  | inr r ↦ (let (g, k, e) = Has-map (due_item (shown s.before)) j (requests_and_repairs me s) r in subst (λ (i : Classed Datagram). i.item.length ≡ length_of i.item.value) (sym e) refl)
]
  where
    of_data : (o : Option Drawop) → Has j (data_item o) → j.item.length ≡ length_of j.item.value
    of_data None h = absurd h
    of_data (Some d) (inl e) = subst (λ (i : Classed Datagram). i.item.length ≡ length_of i.item.value) (sym e) refl
    of_data (Some d) (inr h) = absurd h

-- Something waits after these entries, the last of them a tick: the level is below what it costs.
record Waiting (c : Config) (longest : ℕ) (zs : List Entry) (u : ℕ) : Type 0 where
  pub costs : ℕ
  pub low : level c.rate c.depth u (ticks_of zs) < costs
  pub waits : charge (ticks_of zs) + costs ≤ price (handed_so_far c.me zs)
  pub short : costs ≤ cost_of longest

abbrev First : ℕ → List (Item Datagram) → List (Item Datagram) → List (Item Datagram) → Type 0
First l a b d = (item : Item Datagram) × (l < cost_of item.length) × (cost_of item.length ≤ cost_of_all a + cost_of_all b + cost_of_all d) × (Has item a ⊎ (Has item b ⊎ Has item d))

first_waits : (l : ℕ) (a b d : List (Item Datagram)) → IfSome (or_else (first_in Shown a) (or_else (first_in New b) (first_in Other d))) (λ i. l < cost (Some i)) → (length a + length b + length d ≡ 0) ⊎ First l a b d
first_waits l [] [] [] may = inl refl
first_waits l (y ∷ a) b d may = inr (y, may, omega arith, inl (inl refl))
first_waits l [] (y ∷ b) d may = inr (y, may, omega arith, inr (inl (inl refl)))
first_waits l [] [] (y ∷ d) may = inr (y, may, omega arith, inr (inr (inl refl)))

at_tick : (c : Config) (longest : ℕ) (us : List Going) (x : Going) → AllByRecursion GoesAsCharged (steps (us ++ x ∷ [])) → RightAt c us x → ticked x.entry ≡ true → is_gone (state (entries_of us)) ≡ false
    → ((i : Classed Datagram) → Has i (handed_so_far c.me (entries_of (us ++ x ∷ []))) → i.item.length ≤ longest)
    → (nothing_waits c.me (entries_of (us ++ x ∷ [])) ≡ true) ⊎ Waiting c longest (entries_of (us ++ x ∷ [])) x.entry.moment
at_tick c longest us x all right t g short = elim (first_waits (level c.rate c.depth x.entry.moment (ticks_of zs)) (rest Shown) (rest New) (rest Other) may) [
  | inl none ↦ inl (le-leb (length hs) (length (flat_map charged zs)) (few none))
  | inr first ↦ (let (item, low, within, has) = first in inr (record { costs = cost_of item.length; low = low; waits = together item within; short = brief item has }))
]
  where
    zs : List Entry
    zs = entries_of (us ++ x ∷ [])

    ds : List (Classed Datagram)
    ds = departed_so_far (us ++ x ∷ [])

    hs : List (Classed Datagram)
    hs = handed_so_far c.me zs

    rest : Class → List (Item Datagram)
    rest class = (right.in_order class).0

    parts : (class : Class) → of_class class ds ++ rest class ≡ of_class class hs
    parts class = (right.in_order class).1

    queued : (class : Class) → queued_of c.me (us ++ x ∷ []) class ≡ rest class
    queued class = ap (drop (length (of_class class ds))) (sym (parts class)) ∙ drop_front (of_class class ds) (rest class)

    lets : lets_go (record { before = us; this = x }) ≡ true
    lets = ap (λ b. b && not (is_gone (state (entries_of us)))) t ∙ ap not g

    may : IfSome (first_of_highest rest) (λ i. level c.rate c.depth x.entry.moment (ticks_of zs) < cost (Some i))
    may = subst (λ o. IfSome o (λ i. level c.rate c.depth x.entry.moment (ticks_of zs) < cost (Some i))) (next-same (queued_of c.me (us ++ x ∷ [])) rest queued) (OnTrue_at lets right.all_that_may)

    -- by number
    few : length (rest Shown) + length (rest New) + length (rest Other) ≡ 0 → length hs ≤ length (flat_map charged zs)
    few none =
        let h = sizes hs in
        let d = sizes ds in
        let a : length (of_class Shown hs) ≡ length (of_class Shown ds) + length (rest Shown) = ap length (sym (parts Shown)) ∙ length-append (of_class Shown ds) (rest Shown) in
        let b : length (of_class New hs) ≡ length (of_class New ds) + length (rest New) = ap length (sym (parts New)) ∙ length-append (of_class New ds) (rest New) in
        let e : length (of_class Other hs) ≡ length (of_class Other ds) + length (rest Other) = ap length (sym (parts Other)) ∙ length-append (of_class Other ds) (rest Other) in
        let many = departed_many (us ++ x ∷ []) all in
        omega (arith, h, d, a, b, e, many, none)

    -- what was handed in has its length, and so has what went
    handed_has : (i : Classed Datagram) → Has i hs → i.item.length ≡ length_of i.item.value
    handed_has i h = let (s, k, m) = Has-flat_map (handed_in_by c.me) i (steps zs) h in handed_length c.me s i m

    went_has : (i : Classed Datagram) → Has i ds → i.item.length ≡ length_of i.item.value
    went_has i h =
        let inside : Has i.item (of_class i.class hs) = subst (λ w. Has i.item w) (parts i.class) (Has-front i.item (of_class i.class ds) (rest i.class) (in_its_class_of i ds h)) in
        let (j, k, q) = Has-flat_map (one_of_class i.class) i.item hs inside in
        subst (λ (y : Item Datagram). y.length ≡ length_of y.value) (sym (item_is i.class i.item j q)) (handed_has j k)

    -- by cost
    together : (item : Item Datagram) → cost_of item.length ≤ cost_of_all (rest Shown) + cost_of_all (rest New) + cost_of_all (rest Other) → charge (ticks_of zs) + cost_of item.length ≤ price hs
    together item l =
        let h = by_class hs in
        let d = by_class ds in
        let a : cost_of_all (of_class Shown hs) ≡ cost_of_all (of_class Shown ds) + cost_of_all (rest Shown) = ap cost_of_all (sym (parts Shown)) ∙ cost-both (of_class Shown ds) (rest Shown) in
        let b : cost_of_all (of_class New hs) ≡ cost_of_all (of_class New ds) + cost_of_all (rest New) = ap cost_of_all (sym (parts New)) ∙ cost-both (of_class New ds) (rest New) in
        let e : cost_of_all (of_class Other hs) ≡ cost_of_all (of_class Other ds) + cost_of_all (rest Other) = ap cost_of_all (sym (parts Other)) ∙ cost-both (of_class Other ds) (rest Other) in
        let went : price ds ≡ cost_all (flat_map charged zs) = price_is ds went_has ∙ ap cost_all (went_is_charged (us ++ x ∷ []) all) in
        let ticks = ticks_charge zs in
        sums (charge (ticks_of zs)) (cost_of item.length) (price hs) (price ds) (cost_all (flat_map charged zs)) (cost_of_all (of_class Shown hs)) (cost_of_all (of_class New hs)) (cost_of_all (of_class Other hs))
        (cost_of_all (of_class Shown ds)) (cost_of_all (of_class New ds)) (cost_of_all (of_class Other ds)) (cost_of_all (rest Shown)) (cost_of_all (rest New)) (cost_of_all (rest Other)) l h d a b e went ticks
      where
        sums : (g i h d w a1 a2 a3 b1 b2 b3 r1 r2 r3 : ℕ) → i ≤ r1 + r2 + r3 → h ≡ a1 + a2 + a3 → d ≡ b1 + b2 + b3 → a1 ≡ b1 + r1 → a2 ≡ b2 + r2 → a3 ≡ b3 + r3 → d ≡ w → g ≤ w → g + i ≤ h
        sums g i h d w a1 a2 a3 b1 b2 b3 r1 r2 r3 l h1 d1 e1 e2 e3 q k = omega arith

    of_rest : (class : Class) (item : Item Datagram) → Has item (rest class) → item.length ≤ longest
    of_rest class item h =
        let inside : Has item (of_class class hs) = subst (λ w. Has item w) (parts class) (Has-back item (of_class class ds) (rest class) h) in
        let (j, k, q) = Has-flat_map (one_of_class class) item hs inside in
        subst (λ (y : Item Datagram). y.length ≤ longest) (sym (item_is class item j q)) (short j k)

    brief : (item : Item Datagram) → (Has item (rest Shown) ⊎ (Has item (rest New) ⊎ Has item (rest Other))) → cost_of item.length ≤ cost_of longest
    brief item (inl h) = let l : item.length ≤ longest = of_rest Shown item h in omega arith
    brief item (inr (inl h)) = let l : item.length ≤ longest = of_rest New item h in omega arith
    brief item (inr (inr h)) = let l : item.length ≤ longest = of_rest Other item h in omega arith

-- the same of a tick of a run
tick_state : (c : Config) (made longest : ℕ) (ps : List Entry) (e : Entry) → IsMemberRun c made (ps ++ e ∷ []) → ticked e ≡ true → is_gone (state ps) ≡ false
    → ((i : Classed Datagram) → Has i (handed_so_far c.me (ps ++ e ∷ [])) → i.item.length ≤ longest) → (nothing_waits c.me (ps ++ e ∷ []) ≡ true) ⊎ Waiting c longest (ps ++ e ∷ []) e.moment
tick_state c made longest ps e run t g short =
    let k = rate_law c made (ps ++ e ∷ []) run in
    let (us, vs, p, q, r) = map-split (λ (x : Going). x.entry) k.goings ps (e ∷ []) k.entries in
    last us vs p q r
  where
    last : (us vs : List Going) → (rate_law c made (ps ++ e ∷ []) run).goings ≡ us ++ vs → entries_of us ≡ ps → entries_of vs ≡ e ∷ [] → (nothing_waits c.me (ps ++ e ∷ []) ≡ true) ⊎ Waiting c longest (ps ++ e ∷ []) e.moment
    last us [] p q r = absurd (cc)
    last us (x ∷ y ∷ vs) p q r = absurd (cc)
    last us (x ∷ []) p q r =
        let k = rate_law c made (ps ++ e ∷ []) run in
        let same : x.entry ≡ e = cc in
        let whole : entries_of (us ++ x ∷ []) ≡ ps ++ e ∷ [] = entries-snoc us x ∙ ap (λ w. w ++ x.entry ∷ []) q ∙ ap (λ w. ps ++ w ∷ []) same in
        subst (λ (w : Entry). (nothing_waits c.me (ps ++ e ∷ []) ≡ true) ⊎ Waiting c longest (ps ++ e ∷ []) w.moment) same
        (subst (λ w. (nothing_waits c.me w ≡ true) ⊎ Waiting c longest w x.entry.moment) whole
        (at_tick c longest us x (subst (λ w. AllByRecursion GoesAsCharged (steps w)) p k.outs) (k.each us [] x p) (subst (λ (w : Entry). ticked w ≡ true) (sym same) t)
        (subst (λ w. is_gone (state w) ≡ false) (sym q) g) (subst (λ w. (i : Classed Datagram) → Has i (handed_so_far c.me w) → i.item.length ≤ longest) (sym whole) short)))

-- the windows of the ticks of a run that ends with a tick are kept
within_tick : (c : Config) (made : ℕ) (ps : List Entry) (e : Entry) → IsMemberRun c made (ps ++ e ∷ []) → ticked e ≡ true → IsWithin c.rate c.depth e.moment (ticks_of (ps ++ e ∷ []))
within_tick c made ps e run t =
    let (gs, q, all, law) = run.bucket in
    let each : AllByRecursion (EntryRight c made) (steps (entries_of gs)) = subst (λ ys. AllByRecursion (EntryRight c made) (steps ys)) (sym q) run.each in
    let w = (charged_along c made [] gs (charged_start c made) all each (went_length c gs all law) law).within in
    let right : EntryRight c made (record { before = ps; this = e }) = (at_parts (EntryRight c made) ps (e ∷ []) run.each).1.0 in
    subst (λ n. IsWithin c.rate c.depth n (ticks_of (ps ++ e ∷ []))) (tick_is_last c made ps e right t) (subst (λ ys. IsWithin c.rate c.depth (last_moment made ys) (ticks_of ys)) q w)

-- the ticks, with one more entry

abbrev tick_of : Entry → Tick
tick_of e = record { moment = e.moment; cost = cost_all (charged e) }

ticks_still : (ps : List Entry) (e : Entry) → ticked e ≡ false → ticks_of (ps ++ e ∷ []) ≡ ticks_of ps
ticks_still ps e t = flat_map-append tick_in ps (e ∷ []) ∙ ap (λ b. ticks_of ps ++ ((if b then tick_of e ∷ [] else []) ++ [])) t ∙ append-nil (ticks_of ps)

ticks_more : (ps : List Entry) (e : Entry) → ticked e ≡ true → ticks_of (ps ++ e ∷ []) ≡ ticks_of ps ++ tick_of e ∷ []
ticks_more ps e t = flat_map-append tick_in ps (e ∷ []) ∙ ap (λ b. ticks_of ps ++ ((if b then tick_of e ∷ [] else []) ++ [])) t

-- After some entries up to a moment: so much is spare of the tokens, and since a moment the rate was used for what went, but for this.
record Spare (c : Config) (longest now before : ℕ) (past : List Entry) (u spare : ℕ) : Type 0 where
  pub within : IsWithin c.rate c.depth u (ticks_of past)
  pub kept : spare ≤ level c.rate c.depth u (ticks_of past)
  pub small : spare ≤ cost_of longest
  pub used : before + c.rate * (u - now) ≤ charge (ticks_of past) + spare
  pub since : now ≤ u

spend : (c : Config) (longest ticking now before : ℕ) (past : List Entry) (u spare : ℕ) (e : Entry) → c.rate * ticking + cost_of longest ≤ cost_of c.depth → Spare c longest now before past u spare → ticked e ≡ true → u ≤ e.moment → e.moment ≤ u + ticking
    → IsWithin c.rate c.depth e.moment (ticks_of (past ++ e ∷ [])) → Waiting c longest (past ++ e ∷ []) e.moment
    → Spare c longest now before (past ++ e ∷ []) e.moment (level c.rate c.depth e.moment (ticks_of (past ++ e ∷ [])))
spend c longest ticking now before past u spare e room s t up near within w = record {
  within = within;
  kept = omega arith;
  small = (let a = w.low in let b = w.short in omega (arith, a, b));
  used = sums before (c.rate * (u - now)) (c.rate * (e.moment - u)) (c.rate * (e.moment - now)) spare (level c.rate c.depth u ts) (level c.rate c.depth e.moment ts) (level c.rate c.depth e.moment (ticks_of (past ++ e ∷ [])))
      (cost_of c.depth) (cost_of longest) (c.rate * ticking) (cost_all (charged e)) (charge ts) (charge (ticks_of (past ++ e ∷ []))) s.used s.kept s.small closer room grown less afford more apart;
  since = (let a = s.since in omega (arith, a, up));
}
  where
    ts : List Tick
    ts = ticks_of past

    next : ticks_of (past ++ e ∷ []) ≡ ts ++ tick_of e ∷ []
    next = ticks_more past e t

    closer : c.rate * (e.moment - u) ≤ c.rate * ticking
    closer = mul-le-mul_left c.rate (omega arith)

    grown : level c.rate c.depth e.moment ts ≡ min (cost_of c.depth) (level c.rate c.depth u ts + c.rate * (e.moment - u))
    grown = let there : u + (e.moment - u) ≡ e.moment = omega arith in
        subst (λ n. level c.rate c.depth n ts ≡ min (cost_of c.depth) (level c.rate c.depth u ts + c.rate * (e.moment - u))) there (level-later c.rate c.depth u (e.moment - u) ts s.within)

    less : level c.rate c.depth e.moment (ticks_of (past ++ e ∷ [])) ≡ level c.rate c.depth e.moment ts - cost_all (charged e)
    less = ap (level c.rate c.depth e.moment) next ∙ level-spent c.rate c.depth ts (tick_of e)

    afford : cost_all (charged e) ≤ level c.rate c.depth e.moment ts
    afford = spent-within c.rate c.depth ts (tick_of e) (subst (IsWithin c.rate c.depth e.moment) next within)

    more : charge (ticks_of (past ++ e ∷ [])) ≡ charge ts + cost_all (charged e)
    more = ap charge next ∙ charge-snoc ts (tick_of e)

    apart : c.rate * (e.moment - now) ≡ c.rate * (u - now) + c.rate * (e.moment - u)
    apart = let a = s.since in let d : e.moment - now ≡ (u - now) + (e.moment - u) = omega (arith, a, up) in ap (λ n. c.rate * n) d ∙ mul-add c.rate (u - now) (e.moment - u)

    sums : (g a b ab spare l1 l2 l3 full longest tick cost gone gone_then : ℕ) → g + a ≤ gone + spare → spare ≤ l1 → spare ≤ longest → b ≤ tick → tick + longest ≤ full → l2 ≡ min full (l1 + b) → l3 ≡ l2 - cost → cost ≤ l2
        → gone_then ≡ gone + cost → ab ≡ a + b → g + ab ≤ gone_then + l3
    sums g a b ab spare l1 l2 l3 full longest tick cost gone gone_then p1 p2 p3 p4 p5 p6 p7 p8 p9 p10 = omega arith

-- a tick among these entries, not long after a moment
record Next (u ticking : ℕ) (rest : List Entry) : Type 0 where
  pub one : List Entry
  pub tick : Entry
  pub two : List Entry
  pub split : rest ≡ one ++ tick ∷ two
  pub ticks : ticked tick ≡ true
  pub by : tick.moment ≤ u + ticking

next_later : (u ticking : ℕ) (e : Entry) (rest : List Entry) → ticked e ≡ false → Next u ticking (e ∷ rest) → Next u ticking rest
next_later u ticking e rest still n = go n.one n.split
  where
    go : (one : List Entry) → e ∷ rest ≡ one ++ n.tick ∷ n.two → Next u ticking rest
    go [] q = let same : e ≡ n.tick = cc in absurd (true_false (ticked e) (subst (λ (w : Entry). ticked w ≡ true) (sym same) n.ticks) still)
    go (x ∷ one) q = record { one = one; tick = n.tick; two = n.two; split = tail_same q; ticks = n.ticks; by = n.by }

none_next : (u ticking : ℕ) → Next u ticking [] → ⊥
none_next u ticking n = go n.one n.split
  where
    go : (one : List Entry) → [] ≡ one ++ n.tick ∷ n.two → ⊥
    go [] q = absurd (cc)
    go (x ∷ one) q = absurd (cc)

-- each tick of these entries is after one moment, and not before another
abbrev Follow : ℕ → ℕ → List Entry → Type 0
Follow now u rest = (y : Entry) → Has y rest → ticked y ≡ true → (now < y.moment) × (u ≤ y.moment)

-- by the member's own clock

record Here (t : Trace) (m from to : ℕ) : Type 0 where
  pub before : List Entry
  pub this : Entry
  pub after : List Entry
  pub split : of_member m t.entries ≡ before ++ this ∷ after
  pub not_before : from ≤ this.moment
  pub not_after : this.moment ≤ to

abbrev TicksHere : Trace → ℕ → ℕ → ℕ → Type 0
TicksHere t m from to = (h : Here t m from to) × (ticked h.this ≡ true)

abbrev EmptiesHere : Trace → ℕ → ℕ → ℕ → Type 0
EmptiesHere t m from to = (h : Here t m from to) × (ticked h.this ≡ true) × (nothing_waits m (h.before ++ h.this ∷ []) ≡ true)

abbrev gone_until : List Entry → ℕ → ℕ
gone_until es now = charge (filter (λ (k : Tick). nat_le k.moment now) (ticks_of es))

record PaysHere (t : Trace) (a : Start) (ticking emptying longest now : ℕ) : Type 0 where
  pub room : a.config.rate * ticking + cost_of longest ≤ cost_of a.config.depth
  pub short : (h : Here t a.config.me (now + 1) (now + emptying)) (i : Classed Datagram) → ticked h.this ≡ true → Contains (handed_so_far a.config.me (h.before ++ h.this ∷ [])) i → i.item.length ≤ longest
  pub paid : (h : Here t a.config.me (now + 1) (now + emptying)) → ticked h.this ≡ true
      → price (handed_so_far a.config.me (h.before ++ h.this ∷ [])) ≤ gone_until (of_member a.config.me t.entries) now + a.config.rate * (emptying - ticking)

-- what does not change along the entries of a member
record Case (t : Trace) (a : Start) (ticking emptying longest now : ℕ) : Type 0 where
  pub run : IsMemberRun a.config a.made (of_member a.config.me t.entries)
  pub stays : (h : Here t a.config.me 0 (now + emptying)) → is_gone (state (h.before ++ h.this ∷ [])) ≡ false
  pub order : ticking ≤ emptying
  pub ticks : (at : ℕ) → now ≤ at → at + ticking ≤ now + emptying → TicksHere t a.config.me (at + 1) (at + ticking)
  pub pays : PaysHere t a ticking emptying longest now

-- no later tick is sooner
follows : (t : Trace) (a : Start) (ticking emptying longest now : ℕ) → Case t a ticking emptying longest now → (past : List Entry) (e : Entry) (rest : List Entry) → of_member a.config.me t.entries ≡ past ++ e ∷ rest → ticked e ≡ true
    → now < e.moment → Follow now e.moment rest
follows t a ticking emptying longest now c past e rest q tk late y h ty =
    let (one, two, p) = Has-split y rest h in
    let at : of_member a.config.me t.entries ≡ (past ++ e ∷ one) ++ y ∷ two = q ∙ ap (λ w. past ++ e ∷ w) p ∙ sym (append_assoc past (e ∷ one) (y ∷ two)) in
    let l : e.moment ≤ y.moment = rising a.config a.made (of_member a.config.me t.entries) c.run.each past e one y two at (tick_moves a.config a.made past e (right_at a.config a.made (of_member a.config.me t.entries) past rest e c.run.each q) tk) in
    (omega arith, l)

-- along the entries since the moment: at each tick nothing waits, or the rate was used so far
walk : (t : Trace) (a : Start) (ticking emptying longest now : ℕ) → Case t a ticking emptying longest now → (past rest : List Entry) (u spare : ℕ) → of_member a.config.me t.entries ≡ past ++ rest
    → Spare a.config longest now (gone_until (of_member a.config.me t.entries) now) past u spare → Follow now u rest → u + ticking ≤ now + emptying → Next u ticking rest → EmptiesHere t a.config.me (now + 1) (now + emptying)
walk t a ticking emptying longest now c past [] u spare q s follow more next = absurd (none_next u ticking next)
walk t a ticking emptying longest now c past (e ∷ rest) u spare q s follow more next =
    go (ticked e) refl
    (λ s_then follow_then next_then. walk t a ticking emptying longest now c (past ++ e ∷ []) rest u spare (q ∙ sym (append_assoc past (e ∷ []) rest)) s_then follow_then more next_then)
    (λ spare_then s_then follow_then more_then next_then. walk t a ticking emptying longest now c (past ++ e ∷ []) rest e.moment spare_then (q ∙ sym (append_assoc past (e ∷ []) rest)) s_then follow_then more_then next_then)
  where
    k : Config
    k = a.config

    es : List Entry
    es = of_member a.config.me t.entries

    before : ℕ
    before = gone_until es now

    Ends : Type 0
    Ends = EmptiesHere t a.config.me (now + 1) (now + emptying)

    still : ticked e ≡ false → Spare k longest now before (past ++ e ∷ []) u spare
    still tk =
        let same : ticks_of (past ++ e ∷ []) ≡ ticks_of past = ticks_still past e tk in
        record {
          within = subst (IsWithin k.rate k.depth u) (sym same) s.within;
          kept = subst (λ ts. spare ≤ level k.rate k.depth u ts) (sym same) s.kept;
          small = s.small;
          used = subst (λ ts. before + k.rate * (u - now) ≤ charge ts + spare) (sym same) s.used;
          since = s.since;
        }

    -- the tick is the next one, or before it
    near : ticked e ≡ true → e.moment ≤ u + ticking
    near tk = at next.one next.split
      where
        at : (one : List Entry) → e ∷ rest ≡ one ++ next.tick ∷ next.two → e.moment ≤ u + ticking
        at [] p = let same : e ≡ next.tick = cc in subst (λ (w : Entry). w.moment ≤ u + ticking) (sym same) next.by
        at (x ∷ one) p =
            let tail : rest ≡ one ++ next.tick ∷ next.two = tail_same p in
            let place : es ≡ (past ++ e ∷ one) ++ next.tick ∷ next.two = q ∙ ap (λ w. past ++ e ∷ w) tail ∙ sym (append_assoc past (e ∷ one) (next.tick ∷ next.two)) in
            let l : e.moment ≤ next.tick.moment = rising k a.made es c.run.each past e one next.tick next.two place (tick_moves k a.made past e (right_at k a.made es past rest e c.run.each q) tk) in
            let n : next.tick.moment ≤ u + ticking = next.by in
            omega (arith, l, n)

    -- a tick after it
    another : ticked e ≡ true → e.moment + ticking ≤ now + emptying → now < e.moment → Next e.moment ticking rest
    another tk room late =
        let (h, ticks) = c.ticks e.moment (omega arith) room in
        let low : e.moment + 1 ≤ h.this.moment = h.not_before in
        let (mid, p) = comes_before k a.made es c.run.each h.before h.this h.after past e rest h.split q (tick_moves k a.made h.before h.this (right_at k a.made es h.before h.after h.this c.run.each h.split) ticks) (omega arith) in
        record {
          one = mid;
          tick = h.this;
          two = h.after;
          split = tail_same (append_cancel_left past (e ∷ rest) (e ∷ (mid ++ h.this ∷ h.after)) (sym q ∙ h.split ∙ ap (λ w. w ++ h.this ∷ h.after) p ∙ append_assoc past (e ∷ mid) (h.this ∷ h.after)));
          ticks = ticks;
          by = h.not_after;
        }

    -- at the last tick of the time the rate has paid for all
    none_left : ticked e ≡ true → (h : Here t k.me (now + 1) (now + emptying)) → h.before ++ h.this ∷ [] ≡ past ++ e ∷ [] → ticked h.this ≡ true → Waiting k longest (past ++ e ∷ []) e.moment
        → Spare k longest now before (past ++ e ∷ []) e.moment (level k.rate k.depth e.moment (ticks_of (past ++ e ∷ []))) → now + emptying < e.moment + ticking → ⊥
    none_left tk h same ticks w s_then late =
        let paid : price (handed_so_far k.me (past ++ e ∷ [])) ≤ before + k.rate * (emptying - ticking) = subst (λ z. price (handed_so_far k.me z) ≤ before + k.rate * (emptying - ticking)) same (c.pays.paid h ticks) in
        let longer : k.rate * (emptying - ticking) ≤ k.rate * (e.moment - now) = mul-le-mul_left k.rate (let o = c.order in let b = s_then.since in omega (arith, late, o, b)) in
        sums before (k.rate * (emptying - ticking)) (k.rate * (e.moment - now)) (price (handed_so_far k.me (past ++ e ∷ []))) (charge (ticks_of (past ++ e ∷ []))) (level k.rate k.depth e.moment (ticks_of (past ++ e ∷ []))) w.costs
        paid longer w.low w.waits s_then.used
      where
        sums : (g a b h gone l cost : ℕ) → h ≤ g + a → a ≤ b → l < cost → gone + cost ≤ h → g + b ≤ gone + l → ⊥
        sums g a b h gone l cost p1 p2 p3 p4 p5 = absurd (omega arith)

    go : (b : Bool) → ticked e ≡ b → (Spare k longest now before (past ++ e ∷ []) u spare → Follow now u rest → Next u ticking rest → Ends)
        → ((spare_then : ℕ) → Spare k longest now before (past ++ e ∷ []) e.moment spare_then → Follow now e.moment rest → e.moment + ticking ≤ now + emptying → Next e.moment ticking rest → Ends) → Ends
    go false tk skip step = skip (still tk) (λ y h ty. follow y (inr h) ty) (next_later u ticking e rest tk next)
    go true tk skip step =
        let f = follow e (inl refl) tk in
        let up : u ≤ e.moment = f.1 in
        let late : now < e.moment = f.0 in
        let by : e.moment ≤ u + ticking = near tk in
        let h : Here t k.me (now + 1) (now + emptying) = record { before = past; this = e; after = rest; split = q; not_before = omega arith; not_after = omega arith } in
        let run : IsMemberRun k a.made (past ++ e ∷ []) = run_to k a.made es past rest e c.run q in
        let here : is_gone (state past) ≡ false = present_before k a.made past (e ∷ []) run.each (c.stays (record { before = past; this = e; after = rest; split = q; not_before = omega arith; not_after = omega arith })) in
        elim (tick_state k a.made longest past e run tk here (λ i has. c.pays.short h i tk (Has-Contains i (handed_so_far k.me (past ++ e ∷ [])) has))) [
          | inl none ↦ (h, tk, none)
          | inr w ↦ (let s_then = spend k longest ticking now before past u spare e c.pays.room s tk up by (within_tick k a.made past e run tk) w in
              elim (cases_lt (now + emptying) (e.moment + ticking)) [
                | inl over ↦ absurd (none_left tk h refl tk w s_then over)
                | inr room ↦ step (level k.rate k.depth e.moment (ticks_of (past ++ e ∷ []))) s_then (follows t a ticking emptying longest now c past e rest q tk late) room (another tk room late)
              ])
        ]

-- what went by the moment went before the first tick behind it
gone_before : (now : ℕ) (past rest : List Entry) → ((y : Entry) → Has y rest → ticked y ≡ true → now < y.moment) → gone_until (past ++ rest) now ≤ charge (ticks_of past)
gone_before now past rest late =
    let parts : filter (λ (x : Tick). nat_le x.moment now) (ticks_of (past ++ rest)) ≡ filter (λ (x : Tick). nat_le x.moment now) (ticks_of past) =
    ap (filter (λ (x : Tick). nat_le x.moment now)) (flat_map-append tick_in past rest) ∙ filter-append (λ (x : Tick). nat_le x.moment now) (ticks_of past) (ticks_of rest)
    ∙ ap (λ w. filter (λ (x : Tick). nat_le x.moment now) (ticks_of past) ++ w) (none rest late) ∙ append-nil (filter (λ (x : Tick). nat_le x.moment now) (ticks_of past)) in
    let l : charge (filter (λ (x : Tick). nat_le x.moment now) (ticks_of past)) ≤ charge (ticks_of past) = fewer (ticks_of past) in
    subst (λ w. charge w ≤ charge (ticks_of past)) (sym parts) l
  where
    fewer : (ts : List Tick) → charge (filter (λ (x : Tick). nat_le x.moment now) ts) ≤ charge ts
    fewer [] = omega arith
    fewer (x ∷ ts) = which (nat_le x.moment now) (fewer ts)
      where
        which : (b : Bool) → charge (filter (λ (x : Tick). nat_le x.moment now) ts) ≤ charge ts
            → charge (if b then x ∷ filter (λ (x : Tick). nat_le x.moment now) ts else filter (λ (x : Tick). nat_le x.moment now) ts) ≤ charge (x ∷ ts)
        which true l = omega (arith, l)
        which false l = omega (arith, l)

    above : (m : ℕ) → now < m → nat_le m now ≡ false
    above m l = grind (arith, nat_tests)

    none : (es : List Entry) → ((y : Entry) → Has y es → ticked y ≡ true → now < y.moment) → filter (λ (x : Tick). nat_le x.moment now) (ticks_of es) ≡ []
    none [] all = refl
    none (e ∷ es) all = which (ticked e) refl (none es (λ y h tk. all y (inr h) tk))
      where
        which : (b : Bool) → ticked e ≡ b → filter (λ (x : Tick). nat_le x.moment now) (ticks_of es) ≡ []
            → filter (λ (x : Tick). nat_le x.moment now) ((if b then tick_of e ∷ [] else []) ++ ticks_of es) ≡ []
        which false tk rest = rest
        which true tk rest = ap (λ b. if b then tick_of e ∷ filter (λ (x : Tick). nat_le x.moment now) (ticks_of es) else filter (λ (x : Tick). nat_le x.moment now) (ticks_of es)) (above e.moment (all e (inl refl) tk)) ∙ rest

-- up to the first tick behind the moment
lead : (t : Trace) (a : Start) (ticking emptying longest now : ℕ) → Case t a ticking emptying longest now → (past rest : List Entry) → of_member a.config.me t.entries ≡ past ++ rest
    → IsWithin a.config.rate a.config.depth now (ticks_of past) → (n : Next now ticking rest) → now < n.tick.moment → EmptiesHere t a.config.me (now + 1) (now + emptying)
lead t a ticking emptying longest now c past [] q w n late = absurd (none_next now ticking n)
lead t a ticking emptying longest now c past (e ∷ rest) q w n late =
    go (ticked e) refl (λ w_then n_then late_then. lead t a ticking emptying longest now c (past ++ e ∷ []) rest (q ∙ sym (append_assoc past (e ∷ []) rest)) w_then n_then late_then)
  where
    k : Config
    k = a.config

    es : List Entry
    es = of_member a.config.me t.entries

    -- the tick stands behind
    behind : (e ≡ n.tick → ⊥) → (m : Next now ticking rest) × (now < m.tick.moment)
    behind other = at n.one n.split
      where
        at : (one : List Entry) → e ∷ rest ≡ one ++ n.tick ∷ n.two → (m : Next now ticking rest) × (now < m.tick.moment)
        at [] p = absurd (other (cc))
        at (x ∷ one) p = (record { one = one; tick = n.tick; two = n.two; split = tail_same p; ticks = n.ticks; by = n.by }, late)

    start : ticked e ≡ true → now < e.moment → EmptiesHere t a.config.me (now + 1) (now + emptying)
    start tk after =
        let follow : Follow now now (e ∷ rest) = all_follow in
        walk t a ticking emptying longest now c past (e ∷ rest) now 0 q
        (record {
          within = w;
          kept = omega arith;
          small = omega arith;
          used = (let g : gone_until es now ≤ charge (ticks_of past) = subst (λ z. gone_until z now ≤ charge (ticks_of past)) (sym q) (gone_before now past (e ∷ rest) (λ y h ty. (follow y h ty).0)) in
              let none : k.rate * (now - now) ≡ 0 = nothing in omega (arith, g, none));
          since = omega arith;
        })
        follow (let o = c.order in omega (arith, o)) n
      where
        nothing : k.rate * (now - now) ≡ 0
        nothing = let z : now - now ≡ 0 = omega arith in ap (λ m. k.rate * m) z ∙ mul-zero k.rate

        all_follow : Follow now now (e ∷ rest)
        all_follow y (inl same) ty = let m : y.moment ≡ e.moment = ap (λ (x : Entry). x.moment) same in (omega (arith, m, after), omega (arith, m, after))
        all_follow y (inr h) ty = let f = follows t a ticking emptying longest now c past e rest q tk after y h ty in let l : now < y.moment = f.0 in (l, omega (arith, l))

    go : (b : Bool) → ticked e ≡ b → (IsWithin k.rate k.depth now (ticks_of (past ++ e ∷ [])) → (m : Next now ticking rest) → now < m.tick.moment → EmptiesHere t a.config.me (now + 1) (now + emptying))
        → EmptiesHere t a.config.me (now + 1) (now + emptying)
    go false tk on =
        let (m, l) = behind (λ same. true_false (ticked e) (subst (λ (x : Entry). ticked x ≡ true) (sym same) n.ticks) tk) in
        on (subst (IsWithin k.rate k.depth now) (sym (ticks_still past e tk)) w) m l
    go true tk on = elim (cases_lt now e.moment) [
      | inl after ↦ start tk after
      | inr sooner ↦ (let (m, l) = behind (λ same. (let i : e.moment ≡ n.tick.moment = ap (λ (x : Entry). x.moment) same in absurd (omega (arith, i, sooner, late)))) in
          on (within_later k.rate k.depth e.moment now (ticks_of (past ++ e ∷ [])) sooner (within_tick k a.made past e (run_to k a.made es past rest e c.run q) tk)) m l)
    ]

by_own_clock : (t : Trace) (a : Start) (ticking emptying longest now : ℕ) → IsMemberRun a.config a.made (of_member a.config.me t.entries)
    → ((h : Here t a.config.me 0 (now + emptying)) → is_gone (state (h.before ++ h.this ∷ [])) ≡ false) → ticking ≤ emptying
    → ((at : ℕ) → now ≤ at → at + ticking ≤ now + emptying → TicksHere t a.config.me (at + 1) (at + ticking)) → PaysHere t a ticking emptying longest now
    → EmptiesHere t a.config.me (now + 1) (now + emptying)
by_own_clock t a ticking emptying longest now run stays order ticks pays =
    let (h, tk) = ticks now (omega arith) (omega arith) in
    let low : now + 1 ≤ h.this.moment = h.not_before in
    lead t a ticking emptying longest now (record { run = run; stays = stays; order = order; ticks = ticks; pays = pays })
    [] (of_member a.config.me t.entries) refl tt (record { one = h.before; tick = h.this; two = h.after; split = h.split; ticks = tk; by = h.not_after }) (omega (arith, low))

-- By the one clock: `lag` is what the one clock read when the member's own one read 0.

same_gone : (lag now : ℕ) (ts : List Tick) → lag ≤ now → charge (filter (λ (k : Tick). nat_le (lag + k.moment) now) ts) ≡ charge (filter (λ (k : Tick). nat_le k.moment (now - lag)) ts)
same_gone lag now [] l = refl
same_gone lag now (k ∷ ts) l = go (nat_le (lag + k.moment) now) (nat_le k.moment (now - lag)) (both k.moment) (same_gone lag now ts l)
  where
    both : (u : ℕ) → nat_le (lag + u) now ≡ nat_le u (now - lag)
    both u = grind (arith, nat_tests)

    go : (x y : Bool) → x ≡ y → charge (filter (λ (k : Tick). nat_le (lag + k.moment) now) ts) ≡ charge (filter (λ (k : Tick). nat_le k.moment (now - lag)) ts)
        → charge (if x then k ∷ filter (λ (k : Tick). nat_le (lag + k.moment) now) ts else filter (λ (k : Tick). nat_le (lag + k.moment) now) ts)
        ≡ charge (if y then k ∷ filter (λ (k : Tick). nat_le k.moment (now - lag)) ts else filter (λ (k : Tick). nat_le k.moment (now - lag)) ts)
    go true true e q = ap (λ n. k.cost + n) q
    go false false e q = q
    go true false e q = absurd (cc)
    go false true e q = absurd (cc)

pub emptying_law : EmptyingLaw
emptying_law t p a longest now run has stays begun order ticks pays =
    let (h, tk, none) = by_own_clock t a p.tick p.emptying longest start (All-Has (IsRunOfMember t.entries) a t.starts run.each (Has-contained a t.starts has)) present order ticks_here pays_here in
    (in_time h, tk, none)
  where
    start : ℕ
    start = now - p.clock a.config.me

    by_one_clock : (low high from to : ℕ) → Here t a.config.me low high → from ≤ p.clock a.config.me + low → p.clock a.config.me + high ≤ to → EntryWithin t p a.config.me from to
    by_one_clock low high from to h l u =
        let a : low ≤ h.this.moment = h.not_before in
        let b : h.this.moment ≤ high = h.not_after in
        record { before = h.before; this = h.this; after = h.after; split = h.split; not_before = omega arith; not_after = omega arith }

    by_its_own : (low high from to : ℕ) → EntryWithin t p a.config.me from to → p.clock a.config.me + low ≤ from → to ≤ p.clock a.config.me + high → Here t a.config.me low high
    by_its_own low high from to h l u =
        let a = h.not_before in
        let b = h.not_after in
        record { before = h.before; this = h.this; after = h.after; split = h.split; not_before = omega arith; not_after = omega arith }

    in_time : (h : Here t a.config.me (start + 1) (start + p.emptying)) → EntryWithin t p a.config.me (now + 1) (now + p.emptying)
    in_time h = by_one_clock (start + 1) (start + p.emptying) (now + 1) (now + p.emptying) h (omega arith) (omega arith)

    present : (h : Here t a.config.me 0 (start + p.emptying)) → is_gone (state (h.before ++ h.this ∷ [])) ≡ false
    present h = stays.present (by_one_clock 0 (start + p.emptying) 0 (now + p.emptying) h (omega arith) (omega arith))

    ticks_here : (at : ℕ) → start ≤ at → at + p.tick ≤ start + p.emptying → TicksHere t a.config.me (at + 1) (at + p.tick)
    ticks_here at l u =
        let (h, tk) = ticks (p.clock a.config.me + at) (omega arith) (omega arith) in
        (by_its_own (at + 1) (at + p.tick) (p.clock a.config.me + at + 1) (p.clock a.config.me + at + p.tick) h (omega arith) (omega arith), tk)

    pays_here : PaysHere t a p.tick p.emptying longest start
    pays_here = record {
      room = (let a = pays.room in omega (arith, a));
      short = λ h i tk there. pays.short (in_time h) i tk there;
      paid = λ h tk. (let a = same_gone (p.clock a.config.me) now (ticks_of (of_member a.config.me t.entries)) begun in let b = pays.paid (in_time h) tk in omega (arith, a, b));
    }
