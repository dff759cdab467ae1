-- The bucket law holds over the entries of every run of a member.
use Rattle.std.proofs.Common.{◌≡◌, ℕ, ◌≤◌, ◌<◌, max, Bool, true, false, not, List, [], ◌∷◌, ◌++◌, length, map, refl, ap, sym, ◌∙◌, subst, arith, append_assoc}
use Rattle.std.specs.Prelude.{Some, None, IfSome, drop, if◌then◌else◌}
use Rattle.std.specs.Bool.{OnTrue}
use Rattle.std.specs.List.{AllByRecursion}
use Rattle.std.proofs.lemmas.Bool.{OnTrue_at}
use Rattle.std.proofs.lemmas.List.{map-append}
use Rattle.std.proofs.lemmas.Grind.{flat_map-append}
use Rattle.srm_names.specs.Histories.{steps}
use Rattle.srm_names.proofs.Lists.{at_parts}
use Rattle.srm_names.proofs.Orders.{and_left}
use Rattle.srm_codec.specs.declared.datagram.Datagram.{Datagram}
use Rattle.srm_bucket.specs.declared.class.Class.{Class}
use Rattle.srm_bucket.specs.Calls.{Classed, BucketCall, Handed, Popped}
use Rattle.srm_bucket.specs.Classes.{rank, handed, queued, next_queued, first_of_highest}
use Rattle.srm_bucket.specs.Ticks.{Tick, last_moment as last_of_calls, ticks, cost, charge, allowance, level, IsWithin}
use Rattle.srm_bucket.specs.Law.{BucketLaw, level_at}
use Rattle.srm_bucket.proofs.Departing.{popping}
use Rattle.srm_bucket.proofs.Highest.{next-same}
use Rattle.srm_entries.specs.Configs.{Config}
use Rattle.srm_entries.specs.declared.entry.Entry.{Entry}
use Rattle.srm_entries.specs.Entries.{ticked, last_moment}
use Rattle.srm_entries.specs.Sessions.{charged}
use Rattle.srm_entries.specs.Bucket.{Going, GoesAsCharged, entries_of, lets_go, pops, bucket_calls}
use Rattle.srm_entries.specs.Rates.{of_class, handed_so_far, departed_so_far, queued_of, cost_all, tick_in, ticks_of, RightAt, RateLaw}
use Rattle.srm_entries.specs.Runs.{EntryRight, IsMemberRun}
use Rattle.srm_entries.proofs.Cutting.{run_part}
use Rattle.srm_entries.proofs.Sending.{went_first}
use Rattle.srm_entries.proofs.Charging.{handed_last, law_at, pops_last}
use Rattle.srm_entries.proofs.Marking.{bucket_calls-snoc, entries-snoc, hands, gone_is, handed_is, calls_until, gone_until, handed_until, went_length}
use Rattle.srm_entries.proofs.Spending.{Charged, charged_along, charged_start, law_to, not_before, tick_is_last}

-- a run of a member, marked with what went
record Marked (c : Config) (made : ℕ) (gs : List Going) : Type 0 where
  pub all : AllByRecursion GoesAsCharged (steps gs)
  pub each : AllByRecursion (EntryRight c made) (steps (entries_of gs))
  pub law : BucketLaw c.rate c.depth (bucket_calls c.me gs)

marked_front : (c : Config) (made : ℕ) (before more : List Going) → Marked c made (before ++ more) → Marked c made before
marked_front c made before more m = record {
  all = (at_parts GoesAsCharged before more m.all).0;
  each = (at_parts (EntryRight c made) (entries_of before) (entries_of more) (subst (λ ys. AllByRecursion (EntryRight c made) (steps ys)) (map-append (λ (g : Going). g.entry) before more) m.each)).0;
  law = law_to c before more m.law;
}

last_right : (c : Config) (made : ℕ) (before : List Going) (x : Going) → Marked c made (before ++ x ∷ []) → EntryRight c made (record { before = entries_of before; this = x.entry })
last_right c made before x m =
    (at_parts (EntryRight c made) (entries_of before) (x.entry ∷ []) (subst (λ ys. AllByRecursion (EntryRight c made) (steps ys)) (entries-snoc before x) m.each)).1.0

charged_of : (c : Config) (made : ℕ) (gs : List Going) → Marked c made gs → Charged c made gs
charged_of c made gs m = charged_along c made [] gs (charged_start c made) m.all m.each (went_length c gs m.all m.law) m.law

-- the calls of a tick, parted at a pop
regroup : (a b c d : List (BucketCall Datagram)) → a ++ (b ++ (c ++ d)) ≡ (a ++ (b ++ c)) ++ d
regroup a b c d = ap (λ w. a ++ w) (sym (append_assoc b c d)) ∙ sym (append_assoc a (b ++ c) d)

tick_calls : (me : ℕ) (before : List Going) (x : Going) → lets_go (record { before = before; this = x }) ≡ true
    → bucket_calls me (before ++ x ∷ []) ≡ bucket_calls me before ++ (map Handed (hands me before x) ++ pops x.entry.moment x.goes)
tick_calls me before x q = bucket_calls-snoc me before x ∙ ap (λ b. bucket_calls me before ++ (map Handed (hands me before x) ++ (if b then pops x.entry.moment x.goes else []))) q

calls_at_end : (me : ℕ) (before : List Going) (x : Going) → lets_go (record { before = before; this = x }) ≡ true → bucket_calls me (before ++ x ∷ []) ≡ calls_until me before x x.goes ++ Popped x.entry.moment None ∷ []
calls_at_end me before x q = tick_calls me before x q ∙ regroup (bucket_calls me before) (map Handed (hands me before x)) (popping x.entry.moment x.goes) (Popped x.entry.moment None ∷ [])

calls_at : (me : ℕ) (before : List Going) (x : Going) (first rest : List (Classed Datagram)) (i : Classed Datagram) → lets_go (record { before = before; this = x }) ≡ true → x.goes ≡ first ++ i ∷ rest
    → bucket_calls me (before ++ x ∷ []) ≡ calls_until me before x first ++ Popped x.entry.moment (Some i) ∷ (popping x.entry.moment rest ++ Popped x.entry.moment None ∷ [])
calls_at me before x first rest i q e =
    tick_calls me before x q
    ∙ ap (λ w. bucket_calls me before ++ (map Handed (hands me before x) ++ w))
    (ap (pops x.entry.moment) e ∙ ap (λ w. w ++ Popped x.entry.moment None ∷ []) (map-append (λ (j : Classed Datagram). Popped x.entry.moment (Some j)) first (i ∷ rest))
    ∙ append_assoc (popping x.entry.moment first) (popping x.entry.moment (i ∷ rest)) (Popped x.entry.moment None ∷ []))
    ∙ regroup (bucket_calls me before) (map Handed (hands me before x)) (popping x.entry.moment first) (Popped x.entry.moment (Some i) ∷ (popping x.entry.moment rest ++ Popped x.entry.moment None ∷ []))

pub not_nil : {X : Type 0} (xs ys : List X) (i : X) → [] ≡ xs ++ i ∷ ys → ⊥
not_nil [] ys i e = absurd (cc)
not_nil (x ∷ xs) ys i e = absurd (cc)

-- the level that the bucket goes by at the end of a tick is that of the entries
level_is : (c : Config) (made : ℕ) (before : List Going) (x : Going) → Marked c made (before ++ x ∷ []) → lets_go (record { before = before; this = x }) ≡ true
    → level_at c.rate c.depth (bucket_calls c.me (before ++ x ∷ [])) (last_of_calls (bucket_calls c.me (before ++ x ∷ []))) ≡ level c.rate c.depth x.entry.moment (ticks_of (entries_of (before ++ x ∷ [])))
level_is c made before x m q =
    let t : ticked x.entry ≡ true = and_left (ticked x.entry) _ q in
    let right = last_right c made before x m in
    let early = (charged_of c made before (marked_front c made before (x ∷ []) m)).last in
    let so_far : last_moment made (entries_of before) ≤ x.entry.moment = not_before c made (entries_of before) x.entry right t in
    let still : last_of_calls (bucket_calls c.me before ++ map Handed (hands c.me before x)) ≡ last_of_calls (bucket_calls c.me before) = handed_last (bucket_calls c.me before) (hands c.me before x) in
    let at : last_of_calls (bucket_calls c.me (before ++ x ∷ [])) ≡ x.entry.moment =
    ap last_of_calls (tick_calls c.me before x q ∙ sym (append_assoc (bucket_calls c.me before) (map Handed (hands c.me before x)) (pops x.entry.moment x.goes)))
    ∙ pops_last (bucket_calls c.me before ++ map Handed (hands c.me before x)) x.entry.moment x.goes (omega arith) in
    let last : last_moment made (entries_of (before ++ x ∷ [])) ≡ x.entry.moment = ap (last_moment made) (entries-snoc before x) ∙ tick_is_last c made (entries_of before) x.entry right t in
    let twice : max (last_of_calls (bucket_calls c.me (before ++ x ∷ []))) (last_of_calls (bucket_calls c.me (before ++ x ∷ []))) ≡ x.entry.moment = omega arith in
    ap (λ n. level c.rate c.depth n (ticks (bucket_calls c.me (before ++ x ∷ [])))) twice
    ∙ subst (λ n. level c.rate c.depth n (ticks (bucket_calls c.me (before ++ x ∷ []))) ≡ level c.rate c.depth n (ticks_of (entries_of (before ++ x ∷ [])))) last (charged_of c made (before ++ x ∷ []) m).same

right_at : (c : Config) (made : ℕ) (before : List Going) (x : Going) → Marked c made (before ++ x ∷ []) → RightAt c before x
right_at c made before x m = record {
  in_order = λ class. (let (rest, e) = went_first c.rate c.depth (bucket_calls c.me (before ++ x ∷ [])) m.law class in
      (rest, ap (λ ys. ys ++ rest) (sym (gone_is c.me class (before ++ x ∷ []) m.all)) ∙ e ∙ handed_is c.me class (before ++ x ∷ []) m.all));
  highest_first = λ first rest i e class l. highest first rest i e class l (lets_go (record { before = before; this = x })) refl;
  all_that_may = may (lets_go (record { before = before; this = x })) refl;
}
  where
    parts : AllByRecursion GoesAsCharged (steps before) × GoesAsCharged (record { before = before; this = x })
    parts = let k = at_parts GoesAsCharged before (x ∷ []) m.all in (k.0, k.1.0)

    highest : (first rest : List (Classed Datagram)) (i : Classed Datagram) → x.goes ≡ first ++ i ∷ rest → (class : Class) → rank class < rank i.class → (b : Bool) → lets_go (record { before = before; this = x }) ≡ b
        → of_class class (departed_so_far before ++ first) ≡ of_class class (handed_so_far c.me (entries_of (before ++ x ∷ [])))
    highest first rest i e class l true q =
        let here = law_at c.rate c.depth (calls_until c.me before x first) (popping x.entry.moment rest ++ Popped x.entry.moment None ∷ []) (Popped x.entry.moment (Some i))
        (subst (BucketLaw c.rate c.depth) (calls_at c.me before x first rest i q e) m.law) in
        sym (gone_until c.me class before x first parts.0) ∙ here.highest_first class l ∙ handed_until c.me class before x first parts.0
    highest first rest i e class l false q = absurd (not_nil first rest i (sym (OnTrue_at (ap not q) parts.1.at_ticks) ∙ e))

    next_is : next_queued (bucket_calls c.me (before ++ x ∷ [])) ≡ first_of_highest (queued_of c.me (before ++ x ∷ []))
    next_is = next-same (queued (bucket_calls c.me (before ++ x ∷ []))) (queued_of c.me (before ++ x ∷ []))
        (λ class. ap (λ ys. drop (length ys) (handed class (bucket_calls c.me (before ++ x ∷ [])))) (gone_is c.me class (before ++ x ∷ []) m.all)
        ∙ ap (drop (length (of_class class (departed_so_far (before ++ x ∷ []))))) (handed_is c.me class (before ++ x ∷ []) m.all))

    may : (b : Bool) → lets_go (record { before = before; this = x }) ≡ b
        → OnTrue b (IfSome (first_of_highest (queued_of c.me (before ++ x ∷ []))) (λ i. level c.rate c.depth x.entry.moment (ticks_of (entries_of (before ++ x ∷ []))) < cost (Some i)))
    may false q = tt
    may true q =
        let here = law_at c.rate c.depth (calls_until c.me before x x.goes) [] (Popped x.entry.moment None) (subst (BucketLaw c.rate c.depth) (calls_at_end c.me before x q) m.law) in
        let ends : IfSome (next_queued (bucket_calls c.me (before ++ x ∷ []))) (λ i. level_at c.rate c.depth (bucket_calls c.me (before ++ x ∷ [])) (last_of_calls (bucket_calls c.me (before ++ x ∷ []))) < cost (Some i)) =
        subst (λ cs. IfSome (next_queued cs) (λ i. level_at c.rate c.depth cs (last_of_calls cs) < cost (Some i))) (sym (calls_at_end c.me before x q)) here.all_that_may in
        subst (λ o. IfSome o (λ i. level c.rate c.depth x.entry.moment (ticks_of (entries_of (before ++ x ∷ []))) < cost (Some i))) next_is
        (subst (λ n. IfSome (next_queued (bucket_calls c.me (before ++ x ∷ []))) (λ i. n < cost (Some i))) (level_is c made before x m q) ends)

-- from a tick on

within_back : (rate depth now : ℕ) (ts us : List Tick) → IsWithin rate depth now (ts ++ us) → IsWithin rate depth now us
within_back rate depth now [] us w = w
within_back rate depth now (t ∷ ts) us w = within_back rate depth now ts us w.2

marked_run : (c : Config) (made : ℕ) (es : List Entry) (gs : List Going) → entries_of gs ≡ es → AllByRecursion GoesAsCharged (steps gs) → BucketLaw c.rate c.depth (bucket_calls c.me gs)
    → IsMemberRun c made es → Marked c made gs
marked_run c made es gs q all law run = record { all = all; each = subst (λ ys. AllByRecursion (EntryRight c made) (steps ys)) (sym q) run.each; law = law }

within_run : (c : Config) (made : ℕ) (es : List Entry) → IsMemberRun c made es → IsWithin c.rate c.depth (last_moment made es) (ticks_of es)
within_run c made es run =
    let (gs, q, all, law) = run.bucket in
    subst (λ ys. IsWithin c.rate c.depth (last_moment made ys) (ticks_of ys)) q (charged_of c made gs (marked_run c made es gs q all law run)).within

-- what the ticks from one on are charged, up to the last moment
window : (c : Config) (made : ℕ) (before rest : List Entry) (e : Entry) → IsMemberRun c made (before ++ e ∷ rest) → ticked e ≡ true
    → charge (ticks_of (e ∷ rest)) ≤ allowance c.rate c.depth e.moment (last_moment made (before ++ e ∷ rest))
window c made before rest e run t =
    let within : IsWithin c.rate c.depth (last_moment made (before ++ e ∷ rest)) (ticks_of (e ∷ rest)) =
    within_back c.rate c.depth (last_moment made (before ++ e ∷ rest)) (ticks_of before) (ticks_of (e ∷ rest))
    (subst (IsWithin c.rate c.depth (last_moment made (before ++ e ∷ rest))) (flat_map-append tick_in before (e ∷ rest)) (within_run c made (before ++ e ∷ rest) run)) in
    which (tick_in e) (ap (λ b. if b then tick_of ∷ [] else []) t) within
  where
    tick_of : Tick
    tick_of = record { moment = e.moment; cost = cost_all (charged e) }

    which : (ts : List Tick) → ts ≡ tick_of ∷ [] → IsWithin c.rate c.depth (last_moment made (before ++ e ∷ rest)) (ts ++ ticks_of rest)
        → charge (ts ++ ticks_of rest) ≤ allowance c.rate c.depth e.moment (last_moment made (before ++ e ∷ rest))
    which ts q w = subst (λ us. charge (us ++ ticks_of rest) ≤ allowance c.rate c.depth e.moment (last_moment made (before ++ e ∷ rest))) (sym q)
        (subst (λ us. IsWithin c.rate c.depth (last_moment made (before ++ e ∷ rest)) (us ++ ticks_of rest)) q w).1

-- the entry at the end of a part of a run
end_right : (c : Config) (made : ℕ) (before : List Entry) (e : Entry) → IsMemberRun c made (before ++ e ∷ []) → EntryRight c made (record { before = before; this = e })
end_right c made before e run = (at_parts (EntryRight c made) before (e ∷ []) run.each).1.0

part_to : (c : Config) (made : ℕ) (es before after : List Entry) (e : Entry) → IsMemberRun c made es → es ≡ before ++ e ∷ after → IsMemberRun c made (before ++ e ∷ [])
part_to c made es before after e run q = run_part c made (before ++ e ∷ []) after (subst (IsMemberRun c made) (q ∙ sym (append_assoc before (e ∷ []) after)) run)

pub rate_law : RateLaw
rate_law c made es run =
    let (gs, q, all, law) = run.bucket in
    let m = marked_run c made es gs q all law run in
    record {
      goings = gs;
      entries = q;
      outs = all;
      each = λ before after this e. right_at c made before this (marked_front c made (before ++ this ∷ []) after (subst (Marked c made) (e ∙ sym (append_assoc before (this ∷ []) after)) m));
      one_tick = λ before after e split t.
          let part = part_to c made es before after e run split in
          subst (λ n. charge (ticks_of (e ∷ [])) ≤ allowance c.rate c.depth e.moment n) (tick_is_last c made before e (end_right c made before e part) t) (window c made before [] e part t);
      windows = λ before between after e f split t u.
          let part = part_to c made es (before ++ e ∷ between) after f run split in
          subst (λ n. charge (ticks_of (e ∷ between ++ f ∷ [])) ≤ allowance c.rate c.depth e.moment n)
          (ap (last_moment made) (sym (append_assoc before (e ∷ between) (f ∷ []))) ∙ tick_is_last c made (before ++ e ∷ between) f (end_right c made (before ++ e ∷ between) f part) u)
          (window c made before (between ++ f ∷ []) e (subst (IsMemberRun c made) (append_assoc before (e ∷ between) (f ∷ [])) part) t);
    }
