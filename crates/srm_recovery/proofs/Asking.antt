-- A member that misses a name asks for it in time, or hears another ask for it.
use Rattle.std.proofs.Common.{◌≡◌, ℕ, ◌+◌, ◌≤◌, ◌<◌, max, Bool, true, false, not, ◌&&◌, ◌||◌, List, [], ◌∷◌, ◌++◌, refl, ap, sym, ◌∙◌, subst, arith, inl, inr, append_assoc}
use Rattle.std.specs.Prelude.{◌⊎◌, Option, Some, None, if◌then◌else◌, is_some, option_map, nat_le}
use Rattle.std.specs.List.{AllByRecursion}
use Rattle.std.proofs.lemmas.Bool.{le-leb, cases_lt}
use Rattle.std.proofs.lemmas.Bool.Decides.{nat_tests}
use Rattle.srm_names.specs.FullName.{FullName}
use Rattle.srm_names.specs.Histories.{steps}
use Rattle.srm_names.specs.Names.{among}
use Rattle.srm_names.proofs.Lists.{at_parts}
use Rattle.srm_names.proofs.Snoc.{along}
use Rattle.srm_names.proofs.Orders.{and_left}
use Rattle.srm_codec.specs.declared.datagram.Datagram.{Datagram}
use Rattle.srm_codec.specs.declared.datagram.Datagram.TheVariants.{Data, Request, Repair, Session}
use Rattle.srm_codec.specs.Spelling.{asked_by}
use Rattle.srm_timers.specs.declared.arm.ArmKind.TheVariants.{Ask}
use Rattle.srm_timers.specs.declared.arm.Armed.{Armed}
use Rattle.srm_timers.specs.Arms.{next_exponent, backs_off, ran_out, runs_out_at}
use Rattle.srm_entries.specs.Configs.{Config}
use Rattle.srm_entries.specs.declared.entry.Entry.{Entry}
use Rattle.srm_entries.specs.declared.state.AgentState.{AgentState}
use Rattle.srm_entries.specs.declared.entry.Input.{Input}
use Rattle.srm_entries.specs.declared.entry.Input.TheVariants.{Drew, Heard, Noise, Ticked, Showed, AskedLeave, Gave, Took}
use Rattle.srm_entries.specs.Entries.{done, accepted, ticked, state, is_gone, is_held, is_missing, known}
use Rattle.srm_entries.specs.Timers.{arm_in, asker_in, asks_for, last_ask, ask_due, ask_exponent, ask_basis_of, fix_basis_of, basis_of}
use Rattle.srm_entries.specs.Runs.{EntryRight, expected_state}
use Rattle.srm_entries.proofs.Adding.{known-append, is_held-append}
use Rattle.srm_entries.proofs.Arming.{ask_at, some_of, arm_found, set_by}
use Rattle.srm_entries.proofs.Quiet.{same_missing}
use Rattle.srm_entries.proofs.Responding.{exists, unheld_missing, each_missing_asked}
use Rattle.srm_entries.proofs.Showing.{kind, state-snoc, leaving_not_gone}
use Rattle.srm_world.specs.Traces.{Trace, of_member}
use Rattle.srm_recovery.specs.Timing.{Timing}
use Rattle.srm_recovery.specs.Members.{EntryWithin, Stays, WaitsAtMost, KnowsBy}
use Rattle.srm_recovery.proofs.Ordering.{Moves, done_moves, tick_moves, hearing_moves, right_at, rising, comes_before, last_of_split, Own}

-- who takes part at the end took part before

gone_on : (old : AgentState) (b : Bool) (o : Option Input) → is_gone old ≡ true → (o ≡ Some AskedLeave → ⊥) → is_gone (expected_state old b o) ≡ true
gone_on old true o g never = refl
gone_on old false None g never = g
gone_on old false (Some (Drew page body)) g never = g
gone_on old false (Some (Heard x)) g never = g
gone_on old false (Some Noise) g never = g
gone_on old false (Some Ticked) g never = g
gone_on old false (Some (Showed page)) g never = g
gone_on old false (Some AskedLeave) g never = absurd (never refl)
gone_on old false (Some (Gave slot)) g never = g
gone_on old false (Some (Took slot)) g never = g

pub true_false : (b : Bool) → b ≡ true → b ≡ false → ⊥
true_false true t f = absurd (cc)
true_false false t f = absurd (cc)

gone_step : (c : Config) (made : ℕ) (before : List Entry) (e : Entry) → is_gone (state before) ≡ true → EntryRight c made (record { before = before; this = e }) → is_gone (state (before ++ e ∷ [])) ≡ true
gone_step c made before e g r =
    ap is_gone (state-snoc before e ∙ r.state)
    ∙ gone_on (state before) _ (done e) g (λ leave. true_false (is_gone (state before)) g (leaving_not_gone c made before e r leave))

pub present_before : (c : Config) (made : ℕ) (before after : List Entry) → AllByRecursion (EntryRight c made) (steps (before ++ after)) → is_gone (state (before ++ after)) ≡ false → is_gone (state before) ≡ false
present_before c made before after all p = go (is_gone (state before)) refl
  where
    go : (b : Bool) → is_gone (state before) ≡ b → b ≡ false
    go false e = refl
    go true e = absurd (true_false (is_gone (state (before ++ after)))
        (along (EntryRight c made) (λ es. is_gone (state es) ≡ true) (gone_step c made) before after e (at_parts (EntryRight c made) before after all).1) p)

-- who stays takes part before each entry
pub present_at : (t : Trace) (p : Timing) (m : ℕ) (o : Own t m) (from to : ℕ) → Stays t p m to → (h : EntryWithin t p m from to) → is_gone (state h.before) ≡ false
present_at t p m o from to stays h =
    let parts : of_member m t.entries ≡ (h.before ++ h.this ∷ []) ++ h.after = h.split ∙ sym (append_assoc h.before (h.this ∷ []) h.after) in
    present_before o.start.config o.start.made h.before (h.this ∷ [])
    (at_parts (EntryRight o.start.config o.start.made) (h.before ++ h.this ∷ []) h.after (subst (λ w. AllByRecursion (EntryRight o.start.config o.start.made) (steps w)) parts o.run.each)).0
    (stays.present (record { before = h.before; this = h.this; after = h.after; split = h.split; not_before = omega arith; not_after = h.not_after }))

-- what is held and what exists as entries are added

pub held_more : (es more : List Entry) (n : FullName) → is_held es n ≡ true → is_held (es ++ more) n ≡ true
held_more es more n h = is_held-append es more n ∙ ap (λ b. b || is_held more n) h

pub unheld_before : (es more : List Entry) (n : FullName) → is_held (es ++ more) n ≡ false → is_held es n ≡ false
unheld_before es more n h = go (is_held es n) refl
  where
    go : (b : Bool) → is_held es n ≡ b → b ≡ false
    go false e = refl
    go true e = sym (held_more es more n e) ∙ h

known_more : (es more : List Entry) (n : FullName) → n.number ≤ known es n.stream → n.number ≤ known (es ++ more) n.stream
known_more es more n l =
    let q : known (es ++ more) n.stream ≡ max (known es n.stream) (known more n.stream) = known-append es more n.stream in
    omega (arith, l, q)

exists_if : (es : List Entry) (n : FullName) → 1 ≤ n.number → n.number ≤ known es n.stream → exists es n ≡ true
exists_if es n one l = go n.number (known es n.stream) one l
  where
    go : (a k : ℕ) → 1 ≤ a → a ≤ k → (nat_le 1 a && nat_le a k) ≡ true
    go a k p q = grind (arith, nat_tests)

pub missing_unheld : (es : List Entry) (n : FullName) → is_missing es n ≡ true → is_held es n ≡ false
missing_unheld es n m = go (nat_le 1 n.number) (nat_le n.number (known es n.stream)) (is_held es n) m
  where
    go : (x y h : Bool) → (x && y && not h) ≡ true → h ≡ false
    go true true false e = refl
    go true true true e = absurd (cc)
    go true false h e = absurd (cc)
    go false y h e = absurd (cc)

-- what a request asks for

pub asked_what : (n : FullName) (o : Option Datagram) → is_some (asker_in n o) ≡ true → (s : ℕ) × (first : FullName) × (mask : ℕ) × (o ≡ Some (Request s first mask)) × (among (asked_by first mask) n ≡ true)
asked_what n None e = absurd (cc)
asked_what n (Some (Data d)) e = absurd (cc)
asked_what n (Some (Request s first mask)) e = (s, first, mask, refl, go (among (asked_by first mask) n) e)
  where
    go : (b : Bool) → is_some (if b then Some s else None) ≡ true → b ≡ true
    go true k = refl
    go false k = absurd (cc)
asked_what n (Some (Repair s d)) e = absurd (cc)
asked_what n (Some (Session a b f p r x)) e = absurd (cc)

pub asking_moves : (made : ℕ) (before : List Entry) (e : Entry) (n : FullName) → asks_for n e ≡ true → Moves made before e
asking_moves made before e n a = let (s, first, mask, q, h) = asked_what n (accepted e) a in hearing_moves made before e (Request s first mask) q

pub ask_ticks : (c : Config) (made : ℕ) (before : List Entry) (e : Entry) (n : FullName) → EntryRight c made (record { before = before; this = e }) → among e.effects.asks n ≡ true → ticked e ≡ true
ask_ticks c made before e n r a = and_left (ticked e) (ask_due before n e.moment) (sym (r.timers.asks.exact n) ∙ a)

pub ask_misses : (c : Config) (made : ℕ) (before : List Entry) (e : Entry) (n : FullName) → EntryRight c made (record { before = before; this = e }) → among e.effects.asks n ≡ true → is_held before n ≡ false
ask_misses c made before e n r a = missing_unheld before n (go (ticked e) (not (is_gone (state before))) (is_missing before n) (ran_out e.moment (last_ask before n)) (sym (r.timers.asks.exact n) ∙ a))
  where
    go : (t g m o : Bool) → (t && (g && m && o)) ≡ true → m ≡ true
    go true true true o e = refl
    go true true false o e = absurd (cc)
    go true false m o e = absurd (cc)
    go false g m o e = absurd (cc)

-- An entry that sets a request timer for a missing name heard a request for it, or made one.

abbrev Does : Entry → FullName → Type 0
Does e n = (asks_for n e ≡ true) ⊎ (among e.effects.asks n ≡ true)

setting_does : (c : Config) (made : ℕ) (before : List Entry) (e : Entry) (n : FullName) (a : Armed) → EntryRight c made (record { before = before; this = e }) → arm_in Ask n e ≡ Some a
    → is_missing before n ≡ true → Does e n
setting_does c made before e n a r k m = go (asks_for n e) refl (among e.effects.asks n) refl
  where
    go : (x : Bool) → asks_for n e ≡ x → (y : Bool) → among e.effects.asks n ≡ y → Does e n
    go true p y q = inl p
    go false p true q = inr q
    go false p false q =
        let exponent : ask_exponent before e n ≡ None =
        ap (λ b. if b then (if asks_for n e then backs_off e.moment (last_ask before n) else if among e.effects.asks n then option_map next_exponent (last_ask before n) else None)
        else if is_missing (before ++ e ∷ []) n then Some (if asks_for n e then 1 else 0) else None) m
        ∙ ap (λ b. if b then backs_off e.moment (last_ask before n) else if among e.effects.asks n then option_map next_exponent (last_ask before n) else None) p
        ∙ ap (λ b. if b then option_map next_exponent (last_ask before n) else None) q in
        let none : basis_of c before e n ≡ None =
        ap (λ b. if b then fix_basis_of c before e n else ask_basis_of c before e n) (missing_unheld before n m)
        ∙ ap (option_map (ask_at c (before ++ e ∷ []) n)) exponent in
        absurd (true_false (is_some (basis_of c before e n)) (set_by Ask n c before e a r.arms k) (ap is_some none))

-- one of a name that was not missing before it moves the clock
fresh_moves : (c : Config) (made : ℕ) (before : List Entry) (e : Entry) (n : FullName) (a : Armed) → EntryRight c made (record { before = before; this = e }) → arm_in Ask n e ≡ Some a
    → is_held before n ≡ false → is_missing before n ≡ false → Moves made before e
fresh_moves c made before e n a r k h m = elim (kind c made before e r) [
  | inl drew ↦ done_moves made before e (Drew drew.0 drew.1) drew.2 refl
  | inr (inl hears) ↦ done_moves made before e (Heard hears.0) hears.1 refl
  | inr (inr quiet) ↦ (let exponent : ask_exponent before e n ≡ None =
      ap (λ b. if b then (if asks_for n e then backs_off e.moment (last_ask before n) else if among e.effects.asks n then option_map next_exponent (last_ask before n) else None)
      else if is_missing (before ++ e ∷ []) n then Some (if asks_for n e then 1 else 0) else None) m
      ∙ ap (λ b. if b then Some (if asks_for n e then 1 else 0) else None) (same_missing before e n quiet ∙ m) in
      let none : basis_of c before e n ≡ None =
      ap (λ b. if b then fix_basis_of c before e n else ask_basis_of c before e n) h
      ∙ ap (option_map (ask_at c (before ++ e ∷ []) n)) exponent in
      absurd (true_false (is_some (basis_of c before e n)) (set_by Ask n c before e a r.arms k) (ap is_some none)))
]

-- an entry of a member that asks for the name, or hears a request for it
pub record AsksOrHears (t : Trace) (p : Timing) (m : ℕ) (n : FullName) (from to : ℕ) : Type 0 where
  pub at : EntryWithin t p m from to
  pub does : (asks_for n at.this ≡ true) ⊎ (among at.this.effects.asks n ≡ true)

-- Who knows of a name by a moment holds it by a tick that comes after the longest wait from then, or asks for it or hears a request for it between.
pub asks_in_time : (t : Trace) (p : Timing) (m : ℕ) (o : Own t m) (n : FullName) (now longest to : ℕ) → WaitsAtMost t p Ask m n now longest
    → KnowsBy t p m n now → (tick : EntryWithin t p m (now + longest + 1) to) → is_gone (state tick.before) ≡ false → ticked tick.this ≡ true
    → (is_held tick.before n ≡ true) ⊎ AsksOrHears t p m n (now + 1) to
asks_in_time t p m o n now longest to waits (one, knows, l) tick here ticks = which (is_held tick.before n) refl
  where
    c : Config
    c = o.start.config

    made : ℕ
    made = o.start.made

    all : AllByRecursion (EntryRight c made) (steps (of_member m t.entries))
    all = o.run.each

    right : EntryRight c made (record { before = tick.before; this = tick.this })
    right = right_at c made (of_member m t.entries) tick.before tick.after tick.this all tick.split

    clock : Moves made tick.before tick.this
    clock = tick_moves c made tick.before tick.this right ticks

    before_tick : (mid : List Entry) × (tick.before ≡ knows.before ++ knows.this ∷ mid)
    before_tick = comes_before c made (of_member m t.entries) all tick.before tick.this tick.after knows.before knows.this knows.after tick.split knows.split clock
        (let a = knows.not_after in let b = tick.not_before in omega arith)

    -- from that entry on the name is known
    known_behind : (mid : List Entry) → exists (knows.before ++ knows.this ∷ mid) n ≡ true
    known_behind mid =
        exists_if (knows.before ++ knows.this ∷ mid) n one (subst (λ w. n.number ≤ known w n.stream) (append_assoc knows.before (knows.this ∷ []) mid) (known_more (knows.before ++ knows.this ∷ []) mid n l))

    exists_here : exists tick.before n ≡ true
    exists_here = let (mid, q) = before_tick in subst (λ w. exists w n ≡ true) (sym q) (known_behind mid)

    -- an entry that set a timer since then
    since_then : (rs : List Entry) (e : Entry) (ss : List Entry) (a : Armed) → tick.before ≡ rs ++ e ∷ ss → arm_in Ask n e ≡ Some a → is_held tick.before n ≡ false → now < p.clock m + e.moment
        → AsksOrHears t p m n (now + 1) to
    since_then rs e ss a q k unheld later = go (is_missing rs n) refl
      where
        split : of_member m t.entries ≡ rs ++ e ∷ (ss ++ tick.this ∷ tick.after)
        split = tick.split ∙ ap (λ w. w ++ tick.this ∷ tick.after) q ∙ append_assoc rs (e ∷ ss) (tick.this ∷ tick.after)

        sets : EntryRight c made (record { before = rs; this = e })
        sets = right_at c made (of_member m t.entries) rs (ss ++ tick.this ∷ tick.after) e all split

        unheld_then : is_held rs n ≡ false
        unheld_then = unheld_before rs (e ∷ ss) n (subst (λ w. is_held w n ≡ false) q unheld)

        does : Does e n → Moves made rs e → AsksOrHears t p m n (now + 1) to
        does d moves =
            let up : e.moment ≤ tick.this.moment = rising c made (of_member m t.entries) all rs e ss tick.this tick.after (tick.split ∙ ap (λ w. w ++ tick.this ∷ tick.after) q) moves in
            let end : p.clock m + tick.this.moment ≤ to = tick.not_after in
            record { at = record { before = rs; this = e; after = ss ++ tick.this ∷ tick.after; split = split; not_before = omega arith; not_after = omega arith }; does = d }

        moving : Does e n → Moves made rs e
        moving (inl a) = asking_moves made rs e n a
        moving (inr a) = tick_moves c made rs e sets (ask_ticks c made rs e n sets a)

        go : (b : Bool) → is_missing rs n ≡ b → AsksOrHears t p m n (now + 1) to
        go true x = let d = setting_does c made rs e n a sets k x in does d (moving d)
        go false x =
            let (mid, p) = comes_before c made (of_member m t.entries) all rs e (ss ++ tick.this ∷ tick.after) knows.before knows.this knows.after split knows.split
            (fresh_moves c made rs e n a sets k unheld_then x) (let w = knows.not_after in omega arith) in
            absurd (true_false (is_missing rs n) (unheld_missing rs n (subst (λ w. exists w n ≡ true) (sym p) (known_behind mid)) unheld_then) x)

    -- the timer was set by then, and has run out
    ran : (rs : List Entry) (e : Entry) (ss : List Entry) (a : Armed) → tick.before ≡ rs ++ e ∷ ss → arm_in Ask n e ≡ Some a → is_missing tick.before n ≡ true → last_ask tick.before n ≡ Some a → p.clock m + e.moment ≤ now
        → AsksOrHears t p m n (now + 1) to
    ran rs e ss a q k missing last early =
        let split : of_member m t.entries ≡ rs ++ e ∷ (ss ++ tick.this ∷ tick.after) =
        tick.split ∙ ap (λ w. w ++ tick.this ∷ tick.after) q ∙ append_assoc rs (e ∷ ss) (tick.this ∷ tick.after) in
        let set : a.set ≡ e.moment = (arm_found Ask n e a k).1 in
        let wait : a.arm.wait ≤ longest = waits (record { before = rs; this = e; after = ss ++ tick.this ∷ tick.after; split = split; not_before = omega arith; not_after = early }) a k in
        let over : runs_out_at a ≤ tick.this.moment = let l = tick.not_before in omega arith in
        let due : ask_due tick.before n tick.this.moment ≡ true =
        ap (λ b. not b && is_missing tick.before n && ran_out tick.this.moment (last_ask tick.before n)) here
        ∙ ap (λ b. b && ran_out tick.this.moment (last_ask tick.before n)) missing
        ∙ ap (ran_out tick.this.moment) last ∙ le-leb (runs_out_at a) tick.this.moment over in
        let asked : among tick.this.effects.asks n ≡ true = right.timers.asks.exact n ∙ ap (λ b. b && ask_due tick.before n tick.this.moment) ticks ∙ due in
        let low : now + 1 ≤ p.clock m + tick.this.moment = let l = tick.not_before in omega arith in
        record { at = record { before = tick.before; this = tick.this; after = tick.after; split = tick.split; not_before = low; not_after = tick.not_after }; does = inr asked }

    which : (b : Bool) → is_held tick.before n ≡ b → (is_held tick.before n ≡ true) ⊎ AsksOrHears t p m n (now + 1) to
    which true h = inl h
    which false h =
        let missing : is_missing tick.before n ≡ true = unheld_missing tick.before n exists_here h in
        let part : AllByRecursion (EntryRight c made) (steps tick.before) = (at_parts (EntryRight c made) tick.before (tick.this ∷ tick.after) (subst (λ w. AllByRecursion (EntryRight c made) (steps w)) tick.split all)).0 in
        let (a, last) = some_of (last_ask tick.before n) (each_missing_asked c made tick.before part n missing) in
        let (rs, e, ss, q, k) = last_of_split (arm_in Ask n) tick.before a last in
        elim (cases_lt now (p.clock m + e.moment)) [
          | inl less ↦ inr (since_then rs e ss a q k h less)
          | inr more ↦ inr (ran rs e ss a q k missing last more)
        ]
