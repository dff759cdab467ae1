-- After the entries so far a bucket has as many tokens as their ticks leave.
use Rattle.std.proofs.Common.{◌≡◌, ℕ, ◌+◌, ◌-◌, ◌≤◌, max, Bool, true, false, not, ◌&&◌, List, [], ◌∷◌, ◌++◌, map, refl, ap, sym, ◌∙◌, subst, inl, inr, arith, append_assoc}
use Rattle.std.specs.Prelude.{if◌then◌else◌, MatchBool}
use Rattle.std.specs.List.{flat_map, AllByRecursion}
use Rattle.std.proofs.lemmas.Bool.{OnTrue_at}
use Rattle.std.proofs.lemmas.List.{append-nil}
use Rattle.srm_names.specs.Histories.{Step, steps_after, greatest}
use Rattle.srm_names.proofs.Lists.{Has, Has-front, Has-back}
use Rattle.srm_names.proofs.Snoc.{along, flat_map-snoc}
use Rattle.srm_codec.specs.declared.datagram.Datagram.{Datagram}
use Rattle.srm_codec.specs.Spelling.{length_of}
use Rattle.srm_bucket.specs.Calls.{Classed, BucketCall, Handed}
use Rattle.srm_bucket.specs.Tokens.{cost_of}
use Rattle.srm_bucket.specs.Ticks.{Tick, last_moment as last_of_calls, ticks, level, IsWithin}
use Rattle.srm_bucket.specs.Law.{BucketLaw, GoesRight as CallRight}
use Rattle.srm_bucket.proofs.Windows.{level-spent, within-spent}
use Rattle.srm_entries.specs.Configs.{Config}
use Rattle.srm_entries.specs.declared.entry.Entry.{Entry}
use Rattle.srm_entries.specs.declared.entry.Input.{Input}
use Rattle.srm_entries.specs.declared.entry.Input.TheVariants.{Drew, Heard, Noise, Ticked, Showed, AskedLeave, Gave, Took}
use Rattle.srm_entries.specs.declared.entry.Verdict.TheVariants.{Done}
use Rattle.srm_entries.specs.Entries.{is_tick, ticked, takes_moment, moments_counted, last_moment, state, is_gone}
use Rattle.srm_entries.specs.Verdicts.{VerdictRight}
use Rattle.srm_entries.specs.Sessions.{charged}
use Rattle.srm_entries.specs.Bucket.{Going, GoesAsCharged, entries_of, datagrams_of, lets_go, pops, calls_by, bucket_calls}
use Rattle.srm_entries.specs.Rates.{departed_so_far, cost_all, tick_in, ticks_of}
use Rattle.srm_entries.specs.Runs.{EntryRight}
use Rattle.srm_entries.proofs.Running.{last_moment-snoc}
use Rattle.srm_entries.proofs.Cutting.{bucket_calls-append, law_part}
use Rattle.srm_entries.proofs.Charging.{handed_ticks, handed_last, pops_last, pops_level, cost_of_items, later_same, within_later}
use Rattle.srm_entries.proofs.Marking.{bucket_calls-snoc, entries-snoc, hands}

-- the moment of a tick is the last one

ticked_input : (e : Entry) → ticked e ≡ true → e.input ≡ Ticked
ticked_input e t = which e.input t
  where
    which : (i : Input) → is_tick i ≡ true → i ≡ Ticked
    which Ticked t = refl
    which (Drew page body) t = absurd (grind arith)
    which (Heard g) t = absurd (grind arith)
    which Noise t = absurd (grind arith)
    which (Showed page) t = absurd (grind arith)
    which AskedLeave t = absurd (grind arith)
    which (Gave slot) t = absurd (grind arith)
    which (Took slot) t = absurd (grind arith)

pub not_before : (c : Config) (made : ℕ) (es : List Entry) (e : Entry) → EntryRight c made (record { before = es; this = e }) → ticked e ≡ true → last_moment made es ≤ e.moment
not_before c made es e right t = subst (λ i. MatchBool (takes_moment i) (last_moment made es ≤ e.moment) (e.moment ≡ last_moment made es)) (ticked_input e t) right.moment

pub tick_is_last : (c : Config) (made : ℕ) (es : List Entry) (e : Entry) → EntryRight c made (record { before = es; this = e }) → ticked e ≡ true → last_moment made (es ++ e ∷ []) ≡ e.moment
tick_is_last c made es e right t =
    let input : e.input ≡ Ticked = ticked_input e t in
    let done : e.verdict ≡ Done = subst (λ i. VerdictRight c es i e.verdict) input right.verdict in
    let clock : moments_counted e.verdict e ≡ e.moment ∷ [] = ap (λ v. moments_counted v e) done ∙ ap (λ i. if takes_moment i then e.moment ∷ [] else []) input in
    let l : last_moment made es ≤ e.moment = not_before c made es e right t in
    last_moment-snoc made es e ∙ ap (λ ns. max (last_moment made es) (greatest ns)) clock ∙ omega arith

-- what the items of a tick cost
items_cost : (items : List (Classed Datagram)) → ((i : Classed Datagram) → Has i items → i.item.length ≡ length_of i.item.value) → cost_of_items items ≡ cost_all (datagrams_of items)
items_cost [] h = refl
items_cost (i ∷ items) h =
    ap (λ n. cost_of n + cost_of_items items) (h i (inl refl)) ∙ ap (λ n. cost_of (length_of i.item.value) + n) (items_cost items (λ x k. h x (inr k)))

-- After these entries: the bucket leaves what their ticks leave of its tokens, and each of their windows is kept.
pub record Charged (c : Config) (made : ℕ) (gs : List Going) : Type 0 where
  pub last : last_of_calls (bucket_calls c.me gs) ≤ last_moment made (entries_of gs)
  pub within : IsWithin c.rate c.depth (last_moment made (entries_of gs)) (ticks_of (entries_of gs))
  pub same : level c.rate c.depth (last_moment made (entries_of gs)) (ticks (bucket_calls c.me gs)) ≡ level c.rate c.depth (last_moment made (entries_of gs)) (ticks_of (entries_of gs))

pub law_within : (rate depth : ℕ) (calls : List (BucketCall Datagram)) → BucketLaw rate depth calls → IsWithin rate depth (last_of_calls calls) (ticks calls)
law_within rate depth calls law =
    along (λ (s : Step (BucketCall Datagram)). CallRight rate depth s.before (s.before ++ s.this ∷ []) s.this) (λ cs. IsWithin rate depth (last_of_calls cs) (ticks cs))
    (λ before call p right. right.not_too_much) [] calls tt law

-- What one more entry does, with the calls and ticks of those before it, at its moment: the calls leave less by what it costs.
pub record Spends (rate depth now price : ℕ) (calls more : List (BucketCall Datagram)) : Type 0 where
  pub last : last_of_calls more ≤ now
  pub less : level rate depth now (ticks more) + price ≡ level rate depth now (ticks calls)

spends_nothing : (rate depth now : ℕ) (calls : List (BucketCall Datagram)) (items : List (Classed Datagram)) → last_of_calls calls ≤ now → Spends rate depth now 0 calls (calls ++ (map Handed items ++ []))
spends_nothing rate depth now calls items l =
    let same : calls ++ (map Handed items ++ []) ≡ calls ++ map Handed items = ap (λ xs. calls ++ xs) (append-nil (map Handed items)) in
    let at : last_of_calls (calls ++ (map Handed items ++ [])) ≡ last_of_calls calls = ap last_of_calls same ∙ handed_last calls items in
    let still : level rate depth now (ticks (calls ++ (map Handed items ++ []))) ≡ level rate depth now (ticks calls) = ap (level rate depth now) (ap ticks same ∙ handed_ticks calls items) in
    record { last = omega arith; less = omega arith }

spends_all : (rate depth now : ℕ) (calls : List (BucketCall Datagram)) (items goes : List (Classed Datagram)) → last_of_calls calls ≤ now → BucketLaw rate depth (calls ++ (map Handed items ++ pops now goes))
    → Spends rate depth now (cost_of_items goes) calls (calls ++ (map Handed items ++ pops now goes))
spends_all rate depth now calls items goes l law =
    let split : calls ++ (map Handed items ++ pops now goes) ≡ (calls ++ map Handed items) ++ pops now goes = sym (append_assoc calls (map Handed items) (pops now goes)) in
    let still : last_of_calls (calls ++ map Handed items) ≡ last_of_calls calls = handed_last calls items in
    let early : last_of_calls (calls ++ map Handed items) ≤ now = omega arith in
    let at : last_of_calls (calls ++ (map Handed items ++ pops now goes)) ≡ now = ap last_of_calls split ∙ pops_last (calls ++ map Handed items) now goes early in
    let fell : level rate depth now (ticks ((calls ++ map Handed items) ++ pops now goes)) + cost_of_items goes ≡ level rate depth now (ticks (calls ++ map Handed items)) =
    pops_level rate depth now (calls ++ map Handed items) goes early (subst (BucketLaw rate depth) split law) in
    let joined : level rate depth now (ticks (calls ++ (map Handed items ++ pops now goes))) ≡ level rate depth now (ticks ((calls ++ map Handed items) ++ pops now goes)) = ap (λ cs. level rate depth now (ticks cs)) split in
    let before : level rate depth now (ticks (calls ++ map Handed items)) ≡ level rate depth now (ticks calls) = ap (level rate depth now) (handed_ticks calls items) in
    record { last = omega arith; less = omega arith }

-- what an entry's charged outs cost
abbrev pub price_of : Entry → ℕ
price_of e = cost_all (charged e)

pub entry_spends : (c : Config) (now : ℕ) (before : List Going) (x : Going) → GoesAsCharged (record { before = before; this = x }) → ((i : Classed Datagram) → Has i x.goes → i.item.length ≡ length_of i.item.value)
    → last_of_calls (bucket_calls c.me before) ≤ now → (ticked x.entry ≡ true → x.entry.moment ≡ now) → BucketLaw c.rate c.depth (bucket_calls c.me (before ++ x ∷ []))
    → Spends c.rate c.depth now (price_of x.entry) (bucket_calls c.me before) (bucket_calls c.me (before ++ x ∷ []))
entry_spends c now before x right lengths l at law =
    subst (Spends c.rate c.depth now (price_of x.entry) (bucket_calls c.me before)) (sym (bucket_calls-snoc c.me before x))
    (which (lets_go (record { before = before; this = x })) refl (subst (BucketLaw c.rate c.depth) (bucket_calls-snoc c.me before x) law))
  where
    goes_at : (a b : Bool) → a && b ≡ true → a ≡ true
    goes_at true b e = refl
    goes_at false b e = absurd (grind arith)

    which : (b : Bool) → lets_go (record { before = before; this = x }) ≡ b → BucketLaw c.rate c.depth (bucket_calls c.me before ++ (map Handed (hands c.me before x) ++ (if b then pops x.entry.moment x.goes else [])))
        → Spends c.rate c.depth now (price_of x.entry) (bucket_calls c.me before) (bucket_calls c.me before ++ (map Handed (hands c.me before x) ++ (if b then pops x.entry.moment x.goes else [])))
    which true q law =
        let m : x.entry.moment ≡ now = at (goes_at (ticked x.entry) _ q) in
        let price : cost_of_items x.goes ≡ price_of x.entry = items_cost x.goes lengths ∙ ap cost_all right.same in
        subst (λ n. Spends c.rate c.depth now n (bucket_calls c.me before) (bucket_calls c.me before ++ (map Handed (hands c.me before x) ++ pops x.entry.moment x.goes))) price
        (subst (λ n. Spends c.rate c.depth n (cost_of_items x.goes) (bucket_calls c.me before) (bucket_calls c.me before ++ (map Handed (hands c.me before x) ++ pops x.entry.moment x.goes))) m
        (spends_all c.rate c.depth x.entry.moment (bucket_calls c.me before) (hands c.me before x) x.goes (subst (λ n. last_of_calls (bucket_calls c.me before) ≤ n) (sym m) l) law))
    which false q law =
        let none : x.goes ≡ [] = OnTrue_at (ap not q) right.at_ticks in
        let price : 0 ≡ price_of x.entry = ap cost_all (sym (ap datagrams_of none) ∙ right.same) in
        subst (λ n. Spends c.rate c.depth now n (bucket_calls c.me before) (bucket_calls c.me before ++ (map Handed (hands c.me before x) ++ []))) price
        (spends_nothing c.rate c.depth now (bucket_calls c.me before) (hands c.me before x) l)

-- one more entry

uncharged : (before : List Going) (x : Going) → GoesAsCharged (record { before = before; this = x }) → ticked x.entry ≡ false → charged x.entry ≡ []
uncharged before x right t = sym right.same ∙ ap datagrams_of (OnTrue_at (ap (λ b. not (b && not (is_gone (state (entries_of before))))) t) right.at_ticks)

pub law_to : (c : Config) (before more : List Going) → BucketLaw c.rate c.depth (bucket_calls c.me (before ++ more)) → BucketLaw c.rate c.depth (bucket_calls c.me before)
law_to c before more law = law_part c.rate c.depth (bucket_calls c.me before) (flat_map (calls_by c.me) (steps_after before more)) (subst (BucketLaw c.rate c.depth) (bucket_calls-append c.me before more) law)

-- what holds at the moment of the entry, over the ticks of these entries
record ChargedBy (c : Config) (now : ℕ) (gs : List Going) (es : List Entry) : Type 0 where
  pub within : IsWithin c.rate c.depth now (ticks_of es)
  pub same : level c.rate c.depth now (ticks (bucket_calls c.me gs)) ≡ level c.rate c.depth now (ticks_of es)

charged_next : (c : Config) (now : ℕ) (before : List Going) (x : Going) → GoesAsCharged (record { before = before; this = x }) → (ticked x.entry ≡ true → x.entry.moment ≡ now)
    → IsWithin c.rate c.depth now (ticks_of (entries_of before)) → level c.rate c.depth now (ticks (bucket_calls c.me before)) ≡ level c.rate c.depth now (ticks_of (entries_of before))
    → Spends c.rate c.depth now (price_of x.entry) (bucket_calls c.me before) (bucket_calls c.me (before ++ x ∷ []))
    → ChargedBy c now (before ++ x ∷ []) (entries_of before ++ x.entry ∷ [])
charged_next c now before x right at within same spends = which (ticked x.entry) refl
  where
    ts : List Tick
    ts = ticks_of (entries_of before)

    joined : ticks_of (entries_of before ++ x.entry ∷ []) ≡ ts ++ tick_in x.entry
    joined = flat_map-snoc tick_in (entries_of before) x.entry

    by : (more : List Tick) → tick_in x.entry ≡ more → IsWithin c.rate c.depth now (ts ++ more)
        → level c.rate c.depth now (ticks (bucket_calls c.me (before ++ x ∷ []))) ≡ level c.rate c.depth now (ts ++ more) → ChargedBy c now (before ++ x ∷ []) (entries_of before ++ x.entry ∷ [])
    by more q w e = record {
      within = subst (IsWithin c.rate c.depth now) (sym (joined ∙ ap (λ us. ts ++ us) q)) w;
      same = e ∙ ap (level c.rate c.depth now) (sym (joined ∙ ap (λ us. ts ++ us) q));
    }

    which : (b : Bool) → ticked x.entry ≡ b → ChargedBy c now (before ++ x ∷ []) (entries_of before ++ x.entry ∷ [])
    which true q =
        let t : Tick = record { moment = now; cost = price_of x.entry } in
        let is : tick_in x.entry ≡ t ∷ [] =
        ap (λ b. if b then record { moment = x.entry.moment; cost = price_of x.entry } ∷ [] else []) q ∙ ap (λ n. record { moment = n; cost = price_of x.entry } ∷ []) (at q) in
        let enough : price_of x.entry ≤ level c.rate c.depth now ts = let less = spends.less in omega arith in
        let spent : level c.rate c.depth now (ts ++ t ∷ []) ≡ level c.rate c.depth now ts - price_of x.entry = level-spent c.rate c.depth ts t in
        by (t ∷ []) is (within-spent c.rate c.depth ts t within enough) (let less = spends.less in omega arith)
    which false q =
        let none : price_of x.entry ≡ 0 = ap cost_all (uncharged before x right q) in
        by [] (ap (λ b. if b then record { moment = x.entry.moment; cost = price_of x.entry } ∷ [] else []) q) (subst (IsWithin c.rate c.depth now) (sym (append-nil ts)) within)
        ((let less = spends.less in omega arith) ∙ ap (level c.rate c.depth now) (sym (append-nil ts)))

charged_step : (c : Config) (made : ℕ) (before : List Going) (x : Going) → Charged c made before → GoesAsCharged (record { before = before; this = x })
    → ((i : Classed Datagram) → Has i x.goes → i.item.length ≡ length_of i.item.value) → EntryRight c made (record { before = entries_of before; this = x.entry })
    → BucketLaw c.rate c.depth (bucket_calls c.me (before ++ x ∷ [])) → Charged c made (before ++ x ∷ [])
charged_step c made before x p right lengths entry law =
    let grown : last_moment made (entries_of before ++ x.entry ∷ []) ≡ max (last_moment made (entries_of before)) (greatest (moments_counted x.entry.verdict x.entry)) = last_moment-snoc made (entries_of before) x.entry in
    let later : last_moment made (entries_of before) ≤ last_moment made (entries_of before ++ x.entry ∷ []) = omega arith in
    let early = p.last in
    let at : ticked x.entry ≡ true → x.entry.moment ≡ last_moment made (entries_of before ++ x.entry ∷ []) = λ t. sym (tick_is_last c made (entries_of before) x.entry entry t) in
    let spends = entry_spends c (last_moment made (entries_of before ++ x.entry ∷ [])) before x right lengths (omega arith) at law in
    let calls_within : IsWithin c.rate c.depth (last_moment made (entries_of before)) (ticks (bucket_calls c.me before)) =
    within_later c.rate c.depth (last_of_calls (bucket_calls c.me before)) (last_moment made (entries_of before)) (ticks (bucket_calls c.me before)) p.last
    (law_within c.rate c.depth (bucket_calls c.me before) (law_to c before (x ∷ []) law)) in
    let next = charged_next c (last_moment made (entries_of before ++ x.entry ∷ [])) before x right at
    (within_later c.rate c.depth (last_moment made (entries_of before)) (last_moment made (entries_of before ++ x.entry ∷ [])) (ticks_of (entries_of before)) later p.within)
    (later_same c.rate c.depth (last_moment made (entries_of before)) (last_moment made (entries_of before ++ x.entry ∷ [])) (ticks (bucket_calls c.me before)) (ticks_of (entries_of before)) later calls_within p.within p.same)
    spends in
    let back : entries_of before ++ x.entry ∷ [] ≡ entries_of (before ++ x ∷ []) = sym (entries-snoc before x) in
    record {
      last = subst (λ ys. last_of_calls (bucket_calls c.me (before ++ x ∷ [])) ≤ last_moment made ys) back spends.last;
      within = subst (λ ys. IsWithin c.rate c.depth (last_moment made ys) (ticks_of ys)) back next.within;
      same = subst (λ ys. level c.rate c.depth (last_moment made ys) (ticks (bucket_calls c.me (before ++ x ∷ []))) ≡ level c.rate c.depth (last_moment made ys) (ticks_of ys)) back next.same;
    }

pub charged_along : (c : Config) (made : ℕ) (before rest : List Going) → Charged c made before → AllByRecursion GoesAsCharged (steps_after before rest)
    → AllByRecursion (EntryRight c made) (steps_after (entries_of before) (entries_of rest)) → ((i : Classed Datagram) → Has i (departed_so_far rest) → i.item.length ≡ length_of i.item.value)
    → BucketLaw c.rate c.depth (bucket_calls c.me (before ++ rest)) → Charged c made (before ++ rest)
charged_along c made before [] p all each lengths law = subst (Charged c made) (sym (append-nil before)) p
charged_along c made before (x ∷ rest) p all each lengths law =
    let law_on : BucketLaw c.rate c.depth (bucket_calls c.me ((before ++ x ∷ []) ++ rest)) = subst (λ gs. BucketLaw c.rate c.depth (bucket_calls c.me gs)) (sym (append_assoc before (x ∷ []) rest)) law in
    subst (Charged c made) (append_assoc before (x ∷ []) rest)
    (charged_along c made (before ++ x ∷ []) rest
    (charged_step c made before x p all.0 (λ i h. lengths i (Has-front i x.goes (departed_so_far rest) h)) each.0 (law_to c (before ++ x ∷ []) rest law_on))
    all.1
    (subst (λ ys. AllByRecursion (EntryRight c made) (steps_after ys (entries_of rest))) (sym (entries-snoc before x)) each.1)
    (λ i h. lengths i (Has-back i x.goes (departed_so_far rest) h))
    law_on)

pub charged_start : (c : Config) (made : ℕ) → Charged c made []
charged_start c made = record { last = omega arith; within = tt; same = refl }
