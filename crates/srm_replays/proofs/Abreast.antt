-- Two runs that are abreast: alike so far, and with buckets that are the same.
use Rattle.std.proofs.Common.{◌≡◌, ℕ, ◌≤◌, max, Bool, true, false, not, ◌&&◌, List, [], ◌∷◌, ◌++◌, map, refl, ap, sym, ◌∙◌, subst, arith, append_assoc}
use Rattle.std.specs.Prelude.{None, if◌then◌else◌, filter}
use Rattle.std.specs.List.{AllByRecursion}
use Rattle.std.proofs.lemmas.Bool.{OnTrue_at}
use Rattle.std.proofs.lemmas.List.{append-nil}
use Rattle.srm_names.specs.Histories.{steps, greatest}
use Rattle.srm_names.proofs.Orders.{and_left}
use Rattle.srm_codec.specs.declared.datagram.Datagram.{Datagram}
use Rattle.srm_codec.specs.Spelling.{is_session}
use Rattle.srm_bucket.specs.Calls.{Classed, BucketCall, Handed, Popped}
use Rattle.srm_bucket.specs.Ticks.{last_moment as last_of_calls}
use Rattle.srm_bucket.specs.Law.{BucketLaw}
use Rattle.srm_entries.specs.Configs.{Config}
use Rattle.srm_entries.specs.Entries.{is_tick, ticked, moments_counted, last_moment, state, is_gone}
use Rattle.srm_entries.specs.Bucket.{Going, entries_of, datagrams_of, lets_go, pops, bucket_calls}
use Rattle.srm_entries.specs.Runs.{EntryRight}
use Rattle.srm_entries.proofs.Charging.{handed_last, pops_last}
use Rattle.srm_entries.proofs.Marking.{bucket_calls-snoc, entries-snoc, hands}
use Rattle.srm_entries.proofs.Running.{last_moment-snoc, steps_more}
use Rattle.srm_entries.proofs.Spending.{not_before, tick_is_last}
use Rattle.srm_replays.specs.Calls.{acts}
use Rattle.srm_replays.proofs.Alike.{Alike, alike_back, alike_start, alike_both, IsStill, alike_still}
use Rattle.srm_replays.proofs.Levels.{SameCalls, calls_back, same_handed, same_paused, calls_then, SameTick, same_tick}
use Rattle.srm_replays.proofs.Resting.{GoesOn, still}

pub record Abreast (c : Config) (made : ℕ) (us vs : List Going) : Type 0 where
  pub alike : Alike c (entries_of us) (entries_of vs)
  pub calls : SameCalls c.rate c.depth (bucket_calls c.me us) (bucket_calls c.me vs)
  pub clock : last_of_calls (bucket_calls c.me us) ≤ last_moment made (entries_of us)
  pub other_clock : last_of_calls (bucket_calls c.me vs) ≤ last_moment made (entries_of vs)
  pub each : AllByRecursion (EntryRight c made) (steps (entries_of us))
  pub other_each : AllByRecursion (EntryRight c made) (steps (entries_of vs))

pub turned : (c : Config) (made : ℕ) (us vs : List Going) → Abreast c made us vs → Abreast c made vs us
turned c made us vs a = record {
  alike = alike_back c (entries_of us) (entries_of vs) a.alike;
  calls = calls_back c.rate c.depth (bucket_calls c.me us) (bucket_calls c.me vs) a.calls;
  clock = a.other_clock;
  other_clock = a.clock;
  each = a.other_each;
  other_each = a.each;
}

pub abreast_start : (c : Config) (made : ℕ) → Abreast c made [] []
abreast_start c made = record {
  alike = alike_start c;
  calls = record { came = λ k. refl; went = λ k. refl; levels = λ t l m. refl };
  clock = omega arith;
  other_clock = omega arith;
  each = tt;
  other_each = tt;
}

-- the calls of one more entry

calls_in_tick : (me : ℕ) (before : List Going) (x : Going) → lets_go (record { before = before; this = x }) ≡ true
    → bucket_calls me (before ++ x ∷ []) ≡ (bucket_calls me before ++ map Handed (hands me before x)) ++ pops x.entry.moment x.goes
calls_in_tick me before x q =
    bucket_calls-snoc me before x
    ∙ ap (λ (b : Bool). bucket_calls me before ++ (map Handed (hands me before x) ++ (if b then pops x.entry.moment x.goes else []))) q
    ∙ sym (append_assoc (bucket_calls me before) (map Handed (hands me before x)) (pops x.entry.moment x.goes))

calls_at_rest : (me : ℕ) (before : List Going) (x : Going) → lets_go (record { before = before; this = x }) ≡ false → bucket_calls me (before ++ x ∷ []) ≡ bucket_calls me before ++ map Handed (hands me before x)
calls_at_rest me before x q =
    bucket_calls-snoc me before x
    ∙ ap (λ (b : Bool). bucket_calls me before ++ (map Handed (hands me before x) ++ (if b then pops x.entry.moment x.goes else []))) q
    ∙ ap (λ w. bucket_calls me before ++ w) (append-nil (map Handed (hands me before x)))

module _ (c : Config) (made : ℕ) (before : List Going) (x : Going) (on : GoesOn c made before x) (clock : last_of_calls (bucket_calls c.me before) ≤ last_moment made (entries_of before)) where
  ticks_when : lets_go (record { before = before; this = x }) ≡ true → ticked x.entry ≡ true
  ticks_when q = and_left (ticked x.entry) (not (is_gone (state (entries_of before)))) q

  -- the bucket's last moment, once an entry that ticks has handed in
  early : lets_go (record { before = before; this = x }) ≡ true → last_of_calls (bucket_calls c.me before ++ map Handed (hands c.me before x)) ≤ x.entry.moment
  early q =
      let at : last_of_calls (bucket_calls c.me before ++ map Handed (hands c.me before x)) ≡ last_of_calls (bucket_calls c.me before) = handed_last (bucket_calls c.me before) (hands c.me before x) in
      let l : last_moment made (entries_of before) ≤ x.entry.moment = not_before c made (entries_of before) x.entry on.right (ticks_when q) in
      omega arith

  clock_more : last_of_calls (bucket_calls c.me (before ++ x ∷ [])) ≤ last_moment made (entries_of (before ++ x ∷ []))
  clock_more = subst (λ es. last_of_calls (bucket_calls c.me (before ++ x ∷ [])) ≤ last_moment made es) (sym (entries-snoc before x)) (go (lets_go (record { before = before; this = x })) refl)
    where
      go : (b : Bool) → lets_go (record { before = before; this = x }) ≡ b → last_of_calls (bucket_calls c.me (before ++ x ∷ [])) ≤ last_moment made (entries_of before ++ x.entry ∷ [])
      go true q =
          let at : last_of_calls (bucket_calls c.me (before ++ x ∷ [])) ≡ x.entry.moment =
          ap last_of_calls (calls_in_tick c.me before x q) ∙ pops_last (bucket_calls c.me before ++ map Handed (hands c.me before x)) x.entry.moment x.goes (early q) in
          let last : last_moment made (entries_of before ++ x.entry ∷ []) ≡ x.entry.moment = tick_is_last c made (entries_of before) x.entry on.right (ticks_when q) in
          omega arith
      go false q =
          let at : last_of_calls (bucket_calls c.me (before ++ x ∷ [])) ≡ last_of_calls (bucket_calls c.me before) =
          ap last_of_calls (calls_at_rest c.me before x q) ∙ handed_last (bucket_calls c.me before) (hands c.me before x) in
          let grown : last_moment made (entries_of before ++ x.entry ∷ []) ≡ max (last_moment made (entries_of before)) (greatest (moments_counted x.entry.verdict x.entry)) = last_moment-snoc made (entries_of before) x.entry in
          omega arith

  each_more : AllByRecursion (EntryRight c made) (steps (entries_of before)) → AllByRecursion (EntryRight c made) (steps (entries_of (before ++ x ∷ [])))
  each_more all = subst (λ es. AllByRecursion (EntryRight c made) (steps es)) (sym (entries-snoc before x)) (steps_more (EntryRight c made) (entries_of before) x.entry all on.right)

-- an entry that doesn't act

goes_nothing : (goes : List (Classed Datagram)) → datagrams_of goes ≡ [] → goes ≡ []
goes_nothing [] e = refl
goes_nothing (i ∷ goes) e = absurd (cc)

module _ (c : Config) (made : ℕ) (us : List Going) (x : Going) (on : GoesOn c made us x) (clock : last_of_calls (bucket_calls c.me us) ≤ last_moment made (entries_of us)) (s : IsStill (entries_of us) x.entry) where
  hands_nothing : hands c.me us x ≡ []
  hands_nothing = rw (s.drawn, s.asks, s.fixes) refl

  none_goes : x.goes ≡ []
  none_goes = goes_nothing x.goes (on.goes.same ∙ ap (filter (λ g. not (is_session g))) s.outs)

  calls_still : SameCalls c.rate c.depth (bucket_calls c.me (us ++ x ∷ [])) (bucket_calls c.me us)
  calls_still = go (lets_go (record { before = us; this = x })) refl
    where
      go : (b : Bool) → lets_go (record { before = us; this = x }) ≡ b → SameCalls c.rate c.depth (bucket_calls c.me (us ++ x ∷ [])) (bucket_calls c.me us)
      go true q =
          let is : bucket_calls c.me (us ++ x ∷ []) ≡ bucket_calls c.me us ++ Popped x.entry.moment None ∷ [] =
          calls_in_tick c.me us x q ∙ ap (λ w. (bucket_calls c.me us ++ map Handed w) ++ pops x.entry.moment x.goes) hands_nothing
          ∙ ap (λ w. w ++ pops x.entry.moment x.goes) (append-nil (bucket_calls c.me us)) ∙ ap (λ w. bucket_calls c.me us ++ pops x.entry.moment w) none_goes in
          let l : last_moment made (entries_of us) ≤ x.entry.moment = not_before c made (entries_of us) x.entry on.right (ticks_when c made us x on clock q) in
          subst (λ w. SameCalls c.rate c.depth w (bucket_calls c.me us)) (sym is) (same_paused c.rate c.depth (bucket_calls c.me us) x.entry.moment (omega arith) (subst (BucketLaw c.rate c.depth) is on.law))
      go false q =
          let is : bucket_calls c.me (us ++ x ∷ []) ≡ bucket_calls c.me us = calls_at_rest c.me us x q ∙ ap (λ w. bucket_calls c.me us ++ map Handed w) hands_nothing ∙ append-nil (bucket_calls c.me us) in
          subst (λ w. SameCalls c.rate c.depth w (bucket_calls c.me us)) (sym is) (record { came = λ k. refl; went = λ k. refl; levels = λ t l m. refl })

  calls_no_earlier : last_of_calls (bucket_calls c.me us) ≤ last_of_calls (bucket_calls c.me (us ++ x ∷ []))
  calls_no_earlier = go (lets_go (record { before = us; this = x })) refl
    where
      go : (b : Bool) → lets_go (record { before = us; this = x }) ≡ b → last_of_calls (bucket_calls c.me us) ≤ last_of_calls (bucket_calls c.me (us ++ x ∷ []))
      go true q =
          let at : last_of_calls (bucket_calls c.me (us ++ x ∷ [])) ≡ x.entry.moment =
          ap last_of_calls (calls_in_tick c.me us x q) ∙ pops_last (bucket_calls c.me us ++ map Handed (hands c.me us x)) x.entry.moment x.goes (early c made us x on clock q) in
          let l : last_moment made (entries_of us) ≤ x.entry.moment = not_before c made (entries_of us) x.entry on.right (ticks_when c made us x on clock q) in
          omega arith
      go false q =
          let at : last_of_calls (bucket_calls c.me (us ++ x ∷ [])) ≡ last_of_calls (bucket_calls c.me us) = ap last_of_calls (calls_at_rest c.me us x q) ∙ handed_last (bucket_calls c.me us) (hands c.me us x) in
          omega arith

  pub abreast_still : (vs : List Going) → Abreast c made us vs → Abreast c made (us ++ x ∷ []) vs
  abreast_still vs a = record {
    alike = subst (λ es. Alike c es (entries_of vs)) (sym (entries-snoc us x)) (alike_still c (entries_of us) x.entry s (entries_of vs) a.alike);
    calls = calls_then c.rate c.depth (bucket_calls c.me (us ++ x ∷ [])) (bucket_calls c.me us) (bucket_calls c.me vs) calls_still (λ t l. let k = calls_no_earlier in omega arith) a.calls;
    clock = clock_more c made us x on clock;
    other_clock = a.other_clock;
    each = each_more c made us x on clock a.each;
    other_each = a.other_each;
  }

pub skips : (c : Config) (made : ℕ) (us vs : List Going) (x : Going) → Abreast c made us vs → GoesOn c made us x → acts x.entry ≡ false → Abreast c made (us ++ x ∷ []) vs
skips c made us vs x a on idle = abreast_still c made us x on a.clock (still c made us x on idle) vs a

pub skips_other : (c : Config) (made : ℕ) (us vs : List Going) (y : Going) → Abreast c made us vs → GoesOn c made vs y → acts y.entry ≡ false → Abreast c made us (vs ++ y ∷ [])
skips_other c made us vs y a on idle = turned c made (vs ++ y ∷ []) us (skips c made vs us y (turned c made us vs a) on idle)

-- two entries that hand in the same at one moment

pub record SameGoes (c : Config) (us vs : List Going) (x y : Going) : Type 0 where
  pub goes : x.goes ≡ y.goes
  pub calls : SameCalls c.rate c.depth (bucket_calls c.me (us ++ x ∷ [])) (bucket_calls c.me (vs ++ y ∷ []))

module _ (c : Config) (made : ℕ) (us vs : List Going) (x y : Going) (a : Abreast c made us vs) (on : GoesOn c made us x) (also : GoesOn c made vs y)
    (moment : x.entry.moment ≡ y.entry.moment) (input : x.entry.input ≡ y.entry.input) (same_hands : hands c.me us x ≡ hands c.me vs y) where
  lets_same : lets_go (record { before = us; this = x }) ≡ lets_go (record { before = vs; this = y })
  lets_same = ap (λ i. is_tick i && not (is_gone (state (entries_of us)))) input ∙ ap (λ s. is_tick y.entry.input && not (is_gone s)) a.alike.states

  pub same_goes_here : SameGoes c us vs x y
  same_goes_here = go (lets_go (record { before = us; this = x })) refl
    where
      go : (b : Bool) → lets_go (record { before = us; this = x }) ≡ b → SameGoes c us vs x y
      go true q =
          let q_other : lets_go (record { before = vs; this = y }) ≡ true = sym lets_same ∙ q in
          let xs : List (BucketCall Datagram) = bucket_calls c.me us ++ map Handed (hands c.me us x) in
          let ys : List (BucketCall Datagram) = bucket_calls c.me vs ++ map Handed (hands c.me us x) in
          let is : bucket_calls c.me (us ++ x ∷ []) ≡ xs ++ pops x.entry.moment x.goes = calls_in_tick c.me us x q in
          let is_other : bucket_calls c.me (vs ++ y ∷ []) ≡ ys ++ pops x.entry.moment y.goes =
          calls_in_tick c.me vs y q_other ∙ ap (λ w. (bucket_calls c.me vs ++ map Handed w) ++ pops y.entry.moment y.goes) (sym same_hands) ∙ ap (λ m. ys ++ pops m y.goes) (sym moment) in
          let l : last_of_calls xs ≤ x.entry.moment = early c made us x on a.clock q in
          let m : last_of_calls ys ≤ x.entry.moment =
          subst (λ w. last_of_calls (bucket_calls c.me vs ++ map Handed w) ≤ x.entry.moment) (sym same_hands) (subst (λ n. last_of_calls (bucket_calls c.me vs ++ map Handed (hands c.me vs y)) ≤ n) (sym moment) (early c made vs y also a.other_clock q_other)) in
          let tick : SameTick c.rate c.depth x.entry.moment xs ys x.goes y.goes =
          same_tick c.rate c.depth x.entry.moment xs ys x.goes y.goes (same_handed c.rate c.depth (bucket_calls c.me us) (bucket_calls c.me vs) (hands c.me us x) a.calls) l m
          (subst (BucketLaw c.rate c.depth) is on.law) (subst (BucketLaw c.rate c.depth) is_other also.law) in
          record {
            goes = tick.goes_same;
            calls = subst (λ w. SameCalls c.rate c.depth w (bucket_calls c.me (vs ++ y ∷ []))) (sym is) (subst (SameCalls c.rate c.depth (xs ++ pops x.entry.moment x.goes)) (sym is_other) tick.calls);
          }
      go false q =
          let q_other : lets_go (record { before = vs; this = y }) ≡ false = sym lets_same ∙ q in
          let is : bucket_calls c.me (us ++ x ∷ []) ≡ bucket_calls c.me us ++ map Handed (hands c.me us x) = calls_at_rest c.me us x q in
          let is_other : bucket_calls c.me (vs ++ y ∷ []) ≡ bucket_calls c.me vs ++ map Handed (hands c.me us x) = calls_at_rest c.me vs y q_other ∙ ap (λ w. bucket_calls c.me vs ++ map Handed w) (sym same_hands) in
          record {
            goes = OnTrue_at (ap not q) on.goes.at_ticks ∙ sym (OnTrue_at (ap not q_other) also.goes.at_ticks);
            calls = subst (λ w. SameCalls c.rate c.depth w (bucket_calls c.me (vs ++ y ∷ []))) (sym is)
                (subst (SameCalls c.rate c.depth (bucket_calls c.me us ++ map Handed (hands c.me us x))) (sym is_other) (same_handed c.rate c.depth (bucket_calls c.me us) (bucket_calls c.me vs) (hands c.me us x) a.calls));
          }

-- the same entry behind both
pub abreast_both : (c : Config) (made : ℕ) (us vs : List Going) (x : Going) → Abreast c made us vs → GoesOn c made us x → GoesOn c made vs x
    → SameCalls c.rate c.depth (bucket_calls c.me (us ++ x ∷ [])) (bucket_calls c.me (vs ++ x ∷ [])) → Abreast c made (us ++ x ∷ []) (vs ++ x ∷ [])
abreast_both c made us vs x a on also calls = record {
  alike = subst (λ es. Alike c es (entries_of (vs ++ x ∷ []))) (sym (entries-snoc us x)) (subst (Alike c (entries_of us ++ x.entry ∷ [])) (sym (entries-snoc vs x)) (alike_both c (entries_of us) (entries_of vs) a.alike x.entry));
  calls = calls;
  clock = clock_more c made us x on a.clock;
  other_clock = clock_more c made vs x also a.other_clock;
  each = each_more c made us x on a.clock a.each;
  other_each = each_more c made vs x also a.other_clock a.other_each;
}
