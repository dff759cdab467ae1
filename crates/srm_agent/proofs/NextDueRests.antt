-- If a tick without effects is right, then no tick at that moment has effects. No tick of a gone member has any.
use Rattle.std.proofs.Common.{◌≡◌, ℕ, Bool, true, false, not, ◌&&◌, ◌||◌, List, [], ◌∷◌, ◌++◌, refl, ap, sym, ◌∙◌, subst}
use Rattle.std.specs.Prelude.{Option, Some, None, nat_le, filter}
use Rattle.std.specs.List.{AllByRecursion}
use Rattle.std.proofs.Math.Bool.{not-not}
use Rattle.std.proofs.lemmas.Bool.{OnTrue_at}
use Rattle.srm_names.specs.FullName.{FullName}
use Rattle.srm_names.specs.Histories.{steps}
use Rattle.srm_names.specs.Names.{among, AreExactly}
use Rattle.srm_names.proofs.Lists.{at_parts, map-split}
use Rattle.srm_names.proofs.Same.{same_name-itself}
use Rattle.srm_bucket.specs.Calls.{Classed, Popped}
use Rattle.srm_bucket.specs.Law.{BucketLaw, may_go}
use Rattle.srm_bucket.proofs.Pausing.{paused-none, popped-may_go}
use Rattle.srm_codec.specs.declared.datagram.Datagram.{Datagram}
use Rattle.srm_entries.specs.declared.entry.Entry.{Entry}
use Rattle.srm_entries.specs.Configs.{Config}
use Rattle.srm_entries.specs.Entries.{state, is_gone, ticked}
use Rattle.srm_entries.specs.Timers.{ask_due, fix_due}
use Rattle.srm_codec.specs.Spelling.{is_session}
use Rattle.srm_entries.specs.Sessions.{charged, session_due, all_data_sent, session_message_due, EndsWith}
use Rattle.srm_entries.specs.Bucket.{Going, GoesAsCharged, entries_of, datagrams_of, lets_go, pops, calls_by, bucket_calls}
use Rattle.srm_entries.specs.Runs.{EntryRight, IsMemberRun}
use Rattle.srm_entries.specs.Promises.{MayDoNothing, DoesNothing, NothingIsDue}
use Rattle.srm_entries.proofs.Charging.{law_at}
use Rattle.srm_entries.proofs.Ending.{ending_of, ending_is}
use Rattle.srm_entries.proofs.Marking.{bucket_calls-snoc}
use Rattle.srm_entries.proofs.Marks.{marks_same, pop_is_next}
use Rattle.srm_agent.proofs.NextDueIdle.{unsent_stays, pauses}
use Rattle.srm_agent.proofs.NextDueStirs.{MayCome, may_come, DidNothing, did_nothing, nothing_went}
use Rattle.srm_entries.proofs.Rating.{not_nil}
use Rattle.srm_entries.proofs.Spending.{law_to}

-- what it requests and repairs

none_named : (test : FullName → Bool) (names : List FullName) → AreExactly test names → ((n : FullName) → test n ≡ false) → names ≡ []
none_named test [] are none = refl
none_named test (n ∷ names) are none =
    let here : among (n ∷ names) n ≡ true = ap (λ b. b || among names n) (same_name-itself n) in
    let not_here : among (n ∷ names) n ≡ false = are.exact n ∙ none n in
    absurd (cc)

asks_none : (c : Config) (made : ℕ) (past : List Entry) (now : ℕ) (e : Entry) → MayCome c made past now e → ((n : FullName) → ask_due past n now ≡ false) → e.effects.asks ≡ []
asks_none c made past now e m none = none_named _ e.effects.asks m.right.timers.asks (λ n. ap (λ b. b && ask_due past n e.moment) m.ticks ∙ ap (ask_due past n) m.moment ∙ none n)

fixes_none : (c : Config) (made : ℕ) (past : List Entry) (now : ℕ) (e : Entry) → MayCome c made past now e → ((n : FullName) → fix_due past n now ≡ false) → e.effects.fixes ≡ []
fixes_none c made past now e m none = none_named _ e.effects.fixes m.right.timers.fixes (λ n. ap (λ b. b && fix_due past n e.moment) m.ticks ∙ ap (fix_due past n) m.moment ∙ none n)

no_ask_due : (c : Config) (made : ℕ) (past : List Entry) (now : ℕ) (i : Entry) → DidNothing c made past now i → (n : FullName) → ask_due past n now ≡ false
no_ask_due c made past now i d n =
    ap (ask_due past n) (sym d.comes.moment) ∙ ap (λ b. b && ask_due past n i.moment) (sym d.comes.ticks) ∙ sym (d.comes.right.timers.asks.exact n) ∙ ap (λ ns. among ns n) d.asks

no_fix_due : (c : Config) (made : ℕ) (past : List Entry) (now : ℕ) (i : Entry) → DidNothing c made past now i → (n : FullName) → fix_due past n now ≡ false
no_fix_due c made past now i d n =
    ap (fix_due past n) (sym d.comes.moment) ∙ ap (λ b. b && fix_due past n i.moment) (sym d.comes.ticks) ∙ sym (d.comes.right.timers.fixes.exact n) ∙ ap (λ ns. among ns n) d.fixes

-- what it lets go

-- a run with one more entry, marked with what went
record MarkedWith (c : Config) (past : List Entry) (e : Entry) : Type 0 where
  pub before : List Going
  pub goes : List (Classed Datagram)
  pub entries : entries_of before ≡ past
  pub all : AllByRecursion GoesAsCharged (steps before)
  pub right : GoesAsCharged (record { before = before; this = record { entry = e; goes = goes } })
  pub so_far : BucketLaw c.rate c.depth (bucket_calls c.me before)
  pub law : BucketLaw c.rate c.depth (bucket_calls c.me before ++ calls_by c.me (record { before = before; this = record { entry = e; goes = goes } }))

marked_with : (c : Config) (made : ℕ) (past : List Entry) (e : Entry) → IsMemberRun c made (past ++ e ∷ []) → MarkedWith c past e
marked_with c made past e run =
    let (gs, q, all, law) = run.bucket in
    let (us, vs, p, earlier, later) = map-split (λ (g : Going). g.entry) gs past (e ∷ []) q in
    by us vs earlier later (subst (λ w. AllByRecursion GoesAsCharged (steps w)) p all) (subst (λ w. BucketLaw c.rate c.depth (bucket_calls c.me w)) p law)
  where
    by : (us vs : List Going) → entries_of us ≡ past → entries_of vs ≡ e ∷ [] → AllByRecursion GoesAsCharged (steps (us ++ vs)) → BucketLaw c.rate c.depth (bucket_calls c.me (us ++ vs)) → MarkedWith c past e
    by us [] earlier later all law = absurd (cc)
    by us (x ∷ y ∷ vs) earlier later all law = absurd (cc)
    by us (x ∷ []) earlier later all law =
        let here : x.entry ≡ e = cc in
        let is : x ≡ record { entry = e; goes = x.goes } = ap (λ en. let z : Going = record { entry = en; goes = x.goes } in z) here in
        let parts = at_parts GoesAsCharged us (x ∷ []) all in
        record {
          before = us;
          goes = x.goes;
          entries = earlier;
          all = parts.0;
          right = subst (λ z. GoesAsCharged (record { before = us; this = z })) is parts.1.0;
          so_far = law_to c us (x ∷ []) law;
          law = subst (λ z. BucketLaw c.rate c.depth (bucket_calls c.me us ++ calls_by c.me (record { before = us; this = z }))) is (subst (BucketLaw c.rate c.depth) (bucket_calls-snoc c.me us x) law);
        }

-- where a tick did nothing, nothing may go
none_may_go : (c : Config) (made : ℕ) (past : List Entry) (now : ℕ) (i : Entry) → DidNothing c made past now i → is_gone (state past) ≡ false → (m : MarkedWith c past i) → may_go c.rate c.depth (bucket_calls c.me m.before) now ≡ None
none_may_go c made past now i d here m =
    let none : m.goes ≡ [] = nothing_went m.goes (m.right.same ∙ ap (filter (λ g. not (is_session g))) d.outs) in
    let calls : calls_by c.me (record { before = m.before; this = record { entry = i; goes = m.goes } }) ≡ Popped i.moment None ∷ [] =
    ap (λ goes. calls_by c.me (record { before = m.before; this = record { entry = i; goes = goes } })) none ∙ pauses c.me m.before past i m.entries here d.comes.ticks d.comes.drawn d.asks d.fixes in
    ap (may_go c.rate c.depth (bucket_calls c.me m.before)) (sym d.comes.moment)
    ∙ paused-none c.rate c.depth (bucket_calls c.me m.before) i.moment
    (law_at c.rate c.depth (bucket_calls c.me m.before) [] (Popped i.moment None) (subst (λ cs. BucketLaw c.rate c.depth (bucket_calls c.me m.before ++ cs)) calls m.law))

-- the pops of a tick that hands in nothing
pops_alone : (me : ℕ) (gs : List Going) (past : List Entry) (e : Entry) (goes : List (Classed Datagram)) → entries_of gs ≡ past → is_gone (state past) ≡ false → ticked e ≡ true → e.effects.drawn ≡ None
    → e.effects.asks ≡ [] → e.effects.fixes ≡ [] → calls_by me (record { before = gs; this = record { entry = e; goes = goes } }) ≡ pops e.moment goes
pops_alone me gs past e goes same here t none asks fixes = rw (none, asks, fixes, t, same, here) refl

-- so nothing goes
goes_none : (c : Config) (past : List Entry) (now : ℕ) (e : Entry) (m : MarkedWith c past e) → is_gone (state past) ≡ false → ticked e ≡ true → e.moment ≡ now → e.effects.drawn ≡ None → e.effects.asks ≡ [] → e.effects.fixes ≡ []
    → may_go c.rate c.depth (bucket_calls c.me m.before) now ≡ None → m.goes ≡ []
goes_none c past now e m here t at none asks fixes nothing =
    by m.goes (subst (λ cs. BucketLaw c.rate c.depth (bucket_calls c.me m.before ++ cs)) (pops_alone c.me m.before past e m.goes m.entries here t none asks fixes) m.law)
  where
    by : (goes : List (Classed Datagram)) → BucketLaw c.rate c.depth (bucket_calls c.me m.before ++ pops e.moment goes) → goes ≡ []
    by [] law = refl
    by (x ∷ goes) law =
        let right = law_at c.rate c.depth (bucket_calls c.me m.before) (pops e.moment goes) (Popped e.moment (Some x)) law in
        let may : may_go c.rate c.depth (bucket_calls c.me m.before) e.moment ≡ Some x =
        popped-may_go c.rate c.depth (bucket_calls c.me m.before) e.moment x right (pop_is_next c.rate c.depth e.moment (bucket_calls c.me m.before) x right) in
        let never : may_go c.rate c.depth (bucket_calls c.me m.before) e.moment ≡ None = ap (may_go c.rate c.depth (bucket_calls c.me m.before)) at ∙ nothing in
        absurd (cc)

-- what it sends at its end

ends_not : (c : Config) (made : ℕ) (past : List Entry) (i : Entry) (o : Option Bool) → session_message_due c made past i ≡ o → EndsWith c past i o → i.effects.outs ≡ [] → o ≡ None
ends_not c made past i None e ends none = refl
ends_not c made past i (Some f) e (g, is, message) none = absurd (not_nil (charged i) [] g (sym none ∙ is))

-- two ticks at a moment that charge nothing end alike
ends_alike : (c : Config) (made : ℕ) (past : List Entry) (now : ℕ) (e : Entry) → ticked e ≡ true → e.moment ≡ now → e.effects.drawn ≡ None → charged e ≡ []
    → session_message_due c made past e ≡ ending_of (state past) (not (all_data_sent past)) (nat_le (session_due c made past) now)
ends_alike c made past now e t at none uncharged =
    ending_is c made past e (state past) (not (all_data_sent past)) (nat_le (session_due c made past) now) t refl (not-not (all_data_sent past) ∙ sym (unsent_stays past e uncharged none)) (ap (nat_le (session_due c made past)) (sym at))

sends_none : (c : Config) (made : ℕ) (past : List Entry) (e : Entry) → EntryRight c made (record { before = past; this = e }) → session_message_due c made past e ≡ None → charged e ≡ [] → e.effects.outs ≡ []
sends_none c made past e right none uncharged = subst (EndsWith c past e) none right.session ∙ uncharged

active_rests : (c : Config) (made : ℕ) (past : List Entry) (now : ℕ) (i e : Entry) → DidNothing c made past now i → MayCome c made past now e → is_gone (state past) ≡ false → DoesNothing e
active_rests c made past now i e d m here =
    let asks : e.effects.asks ≡ [] = asks_none c made past now e m (no_ask_due c made past now i d) in
    let fixes : e.effects.fixes ≡ [] = fixes_none c made past now e m (no_fix_due c made past now i d) in
    let with_i : MarkedWith c past i = marked_with c made past i d.comes.run in
    let with_e : MarkedWith c past e = marked_with c made past e m.run in
    let same : with_i.before ≡ with_e.before = marks_same c with_i.before with_e.before (with_i.entries ∙ sym with_e.entries) with_i.all with_e.all with_i.so_far with_e.so_far in
    let goes : with_e.goes ≡ [] = goes_none c past now e with_e here m.ticks m.moment m.drawn asks fixes (subst (λ gs. may_go c.rate c.depth (bucket_calls c.me gs) now ≡ None) same (none_may_go c made past now i d here with_i)) in
    let uncharged : charged e ≡ [] = sym with_e.right.same ∙ ap datagrams_of goes in
    let uncharged_i : charged i ≡ [] = ap (filter (λ g. not (is_session g))) d.outs in
    let ends : session_message_due c made past e ≡ None =
    ends_alike c made past now e m.ticks m.moment m.drawn uncharged ∙ sym (ends_alike c made past now i d.comes.ticks d.comes.moment d.comes.drawn uncharged_i) ∙ ends_not c made past i (session_message_due c made past i) refl d.comes.right.session d.outs in
    record { asks = asks; fixes = fixes; outs = sends_none c made past e m.right ends uncharged }

-- a member that is gone
gone_does_nothing : (c : Config) (made : ℕ) (past : List Entry) (now : ℕ) (e : Entry) → MayCome c made past now e → is_gone (state past) ≡ true → DoesNothing e
gone_does_nothing c made past now e m gone =
    let with_e : MarkedWith c past e = marked_with c made past e m.run in
    let lets : not (lets_go (record { before = with_e.before; this = record { entry = e; goes = with_e.goes } })) ≡ true = rw (m.ticks, with_e.entries, gone) refl in
    let uncharged : charged e ≡ [] = sym with_e.right.same ∙ ap datagrams_of (OnTrue_at lets with_e.right.at_ticks) in
    let ends : session_message_due c made past e ≡ None = rw (m.ticks, gone) refl in
    record {
      asks = asks_none c made past now e m (λ n. rw gone refl);
      fixes = fixes_none c made past now e m (λ n. rw gone refl);
      outs = sends_none c made past e m.right ends uncharged;
    }

pub gone_rests : (c : Config) (made : ℕ) (past : List Entry) (now : ℕ) → is_gone (state past) ≡ true → NothingIsDue c made past now
gone_rests c made past now gone e input moment run = gone_does_nothing c made past now e (may_come c made past now e input moment run) gone

pub idle_rests : (c : Config) (made : ℕ) (past : List Entry) (now : ℕ) → MayDoNothing c made past now → NothingIsDue c made past now
idle_rests c made past now i e input moment run = go (is_gone (state past)) refl
  where
    go : (b : Bool) → is_gone (state past) ≡ b → DoesNothing e
    go true gone = gone_rests c made past now gone e input moment run
    go false here = active_rests c made past now i.0 e (did_nothing c made past now i) (may_come c made past now e input moment run) here
