-- A member responds in time: by induction along its run.
use Rattle.std.proofs.Common.{◌≡◌, ℕ, ◌+◌, ◌≤◌, max, Bool, true, false, not, ◌&&◌, ◌||◌, List, [], ◌∷◌, ◌++◌, refl, ap, sym, ◌∙◌, subst, arith, inl, inr, append_assoc}
use Rattle.std.specs.Prelude.{◌⊎◌, if◌then◌else◌, Option, Some, None, nat_le, is_some, option_map}
use Rattle.std.specs.List.{list_any, AllByRecursion}
use Rattle.std.proofs.lemmas.Bool.{le-leb}
use Rattle.std.proofs.lemmas.List.{append-nil}
use Rattle.std.proofs.Math.Bool.{or-true}
use Rattle.std.proofs.lemmas.Bool.Decides.{nat_tests}
use Rattle.srm_names.specs.FullName.{FullName}
use Rattle.srm_names.specs.Histories.{steps, steps_after, or_else, last_of}
use Rattle.srm_names.specs.Names.{among}
use Rattle.srm_names.proofs.Snoc.{along, steps_from, steps_front, last_of-snoc, last_of-append, list_any-snoc}
use Rattle.srm_codec.specs.declared.datagram.Datagram.{Datagram}
use Rattle.srm_codec.specs.declared.datagram.Datagram.TheVariants.{Data, Request, Repair, Session}
use Rattle.srm_entries.specs.Configs.{Config}
use Rattle.srm_entries.specs.declared.entry.Entry.{Entry}
use Rattle.srm_timers.specs.declared.arm.ArmKind.TheVariants.{Ask, Fix}
use Rattle.srm_entries.specs.declared.entry.Input.{Input}
use Rattle.srm_entries.specs.declared.entry.Input.TheVariants.{Drew, Heard, Noise, Ticked, Showed, AskedLeave, Gave, Took}
use Rattle.srm_entries.specs.declared.entry.Verdict.{Verdict}
use Rattle.srm_entries.specs.declared.entry.Verdict.TheVariants.{Done, Ignored, Refused}
use Rattle.srm_entries.specs.Entries.{heard_in, done_input, accepted, is_tick, ticked, state, is_gone, is_held, is_missing, known}
use Rattle.srm_timers.specs.declared.arm.Armed.{Armed}
use Rattle.srm_timers.specs.Arms.{WaitBasis, runs_out_at, ran_out, next_exponent, backs_off}
use Rattle.srm_entries.specs.Timers.{arm_in, asker_in, asker, asks_for, repairs_in, repaired, last_ask, ask_due, held_off, fix_running, fix_due, ask_exponent, ask_basis_of, fix_basis_of, basis_of, high_of, ArmsRight, TimersRight}
use Rattle.srm_entries.specs.Runs.{EntryRight, ResponseLaw}
use Rattle.srm_entries.proofs.Adding.{known-append, is_held-append, last_ask-snoc, fix_running-snoc}
use Rattle.srm_entries.proofs.Arming.{ask_at, fix_at, some_of, armed_by, set_by, unset_by, kind_set, waits_at_most}

-- a tick hears nothing

tick_hears : (v : Verdict) (i : Input) → is_tick i ≡ true → heard_in (done_input v i) ≡ None
tick_hears Done (Drew page body) e = absurd (cc)
tick_hears Done (Heard g) e = absurd (cc)
tick_hears Done Noise e = absurd (cc)
tick_hears Done Ticked e = refl
tick_hears Done (Showed page) e = absurd (cc)
tick_hears Done AskedLeave e = absurd (cc)
tick_hears Done (Gave slot) e = absurd (cc)
tick_hears Done (Took slot) e = absurd (cc)
tick_hears (Ignored cause) i e = refl
tick_hears (Refused fault) i e = refl

pub tick_hears_nothing : (e : Entry) → ticked e ≡ true → accepted e ≡ None
tick_hears_nothing e t = tick_hears e.verdict e.input t

tick_asks_nothing : (e : Entry) (n : FullName) → ticked e ≡ true → asks_for n e ≡ false
tick_asks_nothing e n t = ap (λ g. is_some (asker_in n g)) (tick_hears_nothing e t)

asks_unticked : (e : Entry) (n : FullName) → asks_for n e ≡ true → ticked e ≡ false
asks_unticked e n h = go (ticked e) refl
  where
    go : (b : Bool) → ticked e ≡ b → b ≡ false
    go false t = refl
    go true t = sym h ∙ tick_asks_nothing e n t

request_repairs_nothing : (n : FullName) (o : Option Datagram) → is_some (asker_in n o) ≡ true → repairs_in n o ≡ false
request_repairs_nothing n None e = refl
request_repairs_nothing n (Some (Data d)) e = refl
request_repairs_nothing n (Some (Request sender name mask)) e = refl
request_repairs_nothing n (Some (Repair sender d)) e = absurd (cc)
request_repairs_nothing n (Some (Session sender sent farewell shown rows echoes)) e = refl

-- an entry that hears a request for the name doesn't repair it
asked_unrepaired : (before : List Entry) (e : Entry) (n : FullName) → TimersRight before e → asks_for n e ≡ true → repaired n e ≡ false
asked_unrepaired before e n r h =
    ap (λ b. b || among e.effects.fixes n) (request_repairs_nothing n (accepted e) h)
    ∙ r.fixes.exact n ∙ ap (λ b. b && fix_due before n e.moment) (asks_unticked e n h)

-- names that exist: held or missing

abbrev pub exists : List Entry → FullName → Bool
exists es n = nat_le 1 n.number && nat_le n.number (known es n.stream)

exists_more : (es more : List Entry) (n : FullName) → exists es n ≡ true → exists (es ++ more) n ≡ true
exists_more es more n h = rw (known-append es more n.stream) (go n.number (known es n.stream) (known more n.stream) h)
  where
    go : (m k j : ℕ) → (nat_le 1 m && nat_le m k) ≡ true → (nat_le 1 m && nat_le m (max k j)) ≡ true
    go m k j e = grind (arith, nat_tests)

missing_parts : (x y h : Bool) → (x && y && not h) ≡ true → ((x && y) ≡ true) × (h ≡ false)
missing_parts true true false e = (refl, refl)
missing_parts true true true e = absurd (cc)
missing_parts true false h e = absurd (cc)
missing_parts false y h e = absurd (cc)

missing_of : (x y h : Bool) → (x && y) ≡ true → h ≡ false → (x && y && not h) ≡ true
missing_of true true false e f = refl
missing_of true true true e f = absurd (cc)
missing_of true false h e f = absurd (cc)
missing_of false y h e f = absurd (cc)

missing_exists : (es : List Entry) (n : FullName) → is_missing es n ≡ true → exists es n ≡ true
missing_exists es n m = (missing_parts (nat_le 1 n.number) (nat_le n.number (known es n.stream)) (is_held es n) m).0

missing_unheld : (es : List Entry) (n : FullName) → is_missing es n ≡ true → is_held es n ≡ false
missing_unheld es n m = (missing_parts (nat_le 1 n.number) (nat_le n.number (known es n.stream)) (is_held es n) m).1

pub unheld_missing : (es : List Entry) (n : FullName) → exists es n ≡ true → is_held es n ≡ false → is_missing es n ≡ true
unheld_missing es n x h = missing_of (nat_le 1 n.number) (nat_le n.number (known es n.stream)) (is_held es n) x h

held_more : (es more : List Entry) (n : FullName) → is_held es n ≡ true → is_held (es ++ more) n ≡ true
held_more es more n h = is_held-append es more n ∙ ap (λ b. b || is_held more n) h

unheld_before : (es more : List Entry) (n : FullName) → is_held (es ++ more) n ≡ false → is_held es n ≡ false
unheld_before es more n h = go (is_held es n) refl
  where
    go : (b : Bool) → is_held es n ≡ b → b ≡ false
    go false e = refl
    go true e = sym (held_more es more n e) ∙ h

-- each missing name has a request timer

some_first : {X : Type 0} (a b : Option X) → is_some a ≡ true → is_some (or_else a b) ≡ true
some_first None b e = absurd (cc)
some_first (Some x) b e = refl

some_then : {X : Type 0} (a b : Option X) → is_some b ≡ true → is_some (or_else a b) ≡ true
some_then None b e = e
some_then (Some x) b e = refl

ask_armed : (c : Config) (before : List Entry) (e : Entry) (n : FullName) (i : ℕ) → ArmsRight c before e → is_held before n ≡ false
    → ask_exponent before e n ≡ Some i → is_some (arm_in Ask n e) ≡ true
ask_armed c before e n i r h x =
    armed_by Ask n c before e (ask_at c (before ++ e ∷ []) n i) r
    (ap (λ b. if b then fix_basis_of c before e n else ask_basis_of c before e n) h
    ∙ ap (option_map (ask_at c (before ++ e ∷ []) n)) x)
    refl

abbrev Asked : List Entry → Type 0
Asked es = (n : FullName) → is_missing es n ≡ true → is_some (last_ask es n) ≡ true

asked_more : (c : Config) (made : ℕ) (before : List Entry) (e : Entry) → Asked before → EntryRight c made (record { before = before; this = e }) → Asked (before ++ e ∷ [])
asked_more c made before e p r n m = ap is_some (last_ask-snoc before e n) ∙ go (is_missing before n) refl
  where
    later : Option ℕ
    later = if asks_for n e then backs_off e.moment (last_ask before n) else if among e.effects.asks n then option_map next_exponent (last_ask before n) else None

    go : (b : Bool) → is_missing before n ≡ b → is_some (or_else (arm_in Ask n e) (last_ask before n)) ≡ true
    go true h = some_then (arm_in Ask n e) (last_ask before n) (p n h)
    go false h = some_first (arm_in Ask n e) (last_ask before n)
        (ask_armed c before e n (if asks_for n e then 1 else 0) r.arms (unheld_before before (e ∷ []) n (missing_unheld (before ++ e ∷ []) n m))
        (ap (λ b. if b then later else if is_missing (before ++ e ∷ []) n then Some (if asks_for n e then 1 else 0) else None) h
        ∙ ap (λ b. if b then Some (if asks_for n e then 1 else 0) else None) m))

pub each_missing_asked : (c : Config) (made : ℕ) (es : List Entry) → AllByRecursion (EntryRight c made) (steps es) → Asked es
each_missing_asked c made es all = along (EntryRight c made) Asked (asked_more c made) [] es (λ n m. absurd (none n m)) all
  where
    none : (n : FullName) → is_missing [] n ≡ true → ⊥
    none n m = no n.number (missing_exists [] n m)
      where
        no : (k : ℕ) → (nat_le 1 k && nat_le k 0) ≡ true → ⊥
        no k e = grind (arith, nat_tests)

-- a request for a held name starts a repair timer

fix_armed : (c : Config) (made : ℕ) (before : List Entry) (e : Entry) (n : FullName) → EntryRight c made (record { before = before; this = e })
    → is_held before n ≡ true → held_off c before n e.moment ≡ false → asks_for n e ≡ true → is_some (fix_running (before ++ e ∷ []) n) ≡ true
fix_armed c made before e n r h o a =
    ap is_some (fix_running-snoc before e n ∙ ap (λ b. if b then None else or_else (arm_in Fix n e) (fix_running before n)) (asked_unrepaired before e n r.timers a))
    ∙ go (fix_running before n) refl (asker n e) refl
  where
    go : (f : Option Armed) → fix_running before n ≡ f → (b : Option ℕ) → asker n e ≡ b → is_some (or_else (arm_in Fix n e) f) ≡ true
    go (Some x) k b q = some_then (arm_in Fix n e) (Some x) refl
    go None k None q = absurd (cc (a, q))
    go None k (Some b) q = some_first (arm_in Fix n e) None
        (armed_by Fix n c before e (fix_at c before b) r.arms
        (ap (λ t. if t then fix_basis_of c before e n else ask_basis_of c before e n) h
        ∙ ap (λ t. if t && not (is_some (fix_running before n)) && not (held_off c before n e.moment) then option_map (fix_at c before) (asker n e) else None) h
        ∙ ap (λ t. if not (is_some t) && not (held_off c before n e.moment) then option_map (fix_at c before) (asker n e) else None) k
        ∙ ap (λ t. if not t then option_map (fix_at c before) (asker n e) else None) o
        ∙ ap (option_map (fix_at c before)) q)
        refl)

-- an asking timer that ran out is answered by a newer one, or the name was gained

exponent_exists : (before : List Entry) (e : Entry) (n : FullName) (i : ℕ) → ask_exponent before e n ≡ Some i → exists (before ++ e ∷ []) n ≡ true
exponent_exists before e n i x = go (is_missing before n) refl (is_missing (before ++ e ∷ []) n) refl
  where
    later : Option ℕ
    later = if asks_for n e then backs_off e.moment (last_ask before n) else if among e.effects.asks n then option_map next_exponent (last_ask before n) else None

    go : (b : Bool) → is_missing before n ≡ b → (d : Bool) → is_missing (before ++ e ∷ []) n ≡ d → exists (before ++ e ∷ []) n ≡ true
    go true h d k = exists_more before (e ∷ []) n (missing_exists before n h)
    go false h true k = missing_exists (before ++ e ∷ []) n k
    go false h false k =
        let none : ask_exponent before e n ≡ None =
        ap (λ b. if b then later else if is_missing (before ++ e ∷ []) n then Some (if asks_for n e then 1 else 0) else None) h
        ∙ ap (λ b. if b then Some (if asks_for n e then 1 else 0) else None) k in
        let bad : Some i ≡ None = sym x ∙ none in
        absurd (cc)

ask_exists : (c : Config) (before : List Entry) (e : Entry) (n : FullName) (a : Armed) → ArmsRight c before e → arm_in Ask n e ≡ Some a
    → is_held before n ≡ false → exists (before ++ e ∷ []) n ≡ true
ask_exists c before e n a r k h = go (ask_exponent before e n) refl
  where
    go : (o : Option ℕ) → ask_exponent before e n ≡ o → exists (before ++ e ∷ []) n ≡ true
    go (Some i) x = exponent_exists before e n i x
    go None x =
        let none : basis_of c before e n ≡ None =
        ap (λ b. if b then fix_basis_of c before e n else ask_basis_of c before e n) h
        ∙ ap (option_map (ask_at c (before ++ e ∷ []) n)) x in
        let bad : false ≡ true = ap is_some (sym none) ∙ set_by Ask n c before e a r k in
        absurd (cc)

asks_again : (c : Config) (made : ℕ) (past : List Entry) (tick : Entry) (n : FullName) (a : Armed) → EntryRight c made (record { before = past; this = tick })
    → ticked tick ≡ true → is_gone (state past) ≡ false → is_missing past n ≡ true → last_ask past n ≡ Some a → runs_out_at a ≤ tick.moment → is_some (arm_in Ask n tick) ≡ true
asks_again c made past tick n a r t g m l w =
    let due : ask_due past n tick.moment ≡ true =
    ap (λ b. not b && is_missing past n && ran_out tick.moment (last_ask past n)) g
    ∙ ap (λ b. b && ran_out tick.moment (last_ask past n)) m
    ∙ ap (ran_out tick.moment) l ∙ le-leb (runs_out_at a) tick.moment w in
    let handed : among tick.effects.asks n ≡ true = r.timers.asks.exact n ∙ ap (λ b. b && ask_due past n tick.moment) t ∙ due in
    ask_armed c past tick n (next_exponent a) r.arms (missing_unheld past n m)
    (ap (λ b. if b then (if asks_for n tick then backs_off tick.moment (last_ask past n) else if among tick.effects.asks n then option_map next_exponent (last_ask past n) else None)
    else if is_missing (past ++ tick ∷ []) n then Some (if asks_for n tick then 1 else 0) else None) m
    ∙ ap (λ b. if b then backs_off tick.moment (last_ask past n) else if among tick.effects.asks n then option_map next_exponent (last_ask past n) else None) (tick_asks_nothing tick n t)
    ∙ ap (λ b. if b then option_map next_exponent (last_ask past n) else None) handed
    ∙ ap (option_map next_exponent) l)

over_by : (c : Config) (tick : Entry) (a : Armed) → a.arm.wait ≤ high_of c a.arm → a.set + high_of c a.arm ≤ tick.moment → runs_out_at a ≤ tick.moment
over_by c tick a w l = go a.set a.arm.wait (high_of c a.arm) tick.moment w l
  where
    go : (s x y t : ℕ) → x ≤ y → s + y ≤ t → s + x ≤ t
    go s x y t p q = omega arith

ask_answered : (c : Config) (made : ℕ) (before between : List Entry) (e tick : Entry) (n : FullName) (a : Armed)
    → EntryRight c made (record { before = before; this = e }) → EntryRight c made (record { before = before ++ e ∷ between; this = tick })
    → arm_in Ask n e ≡ Some a → ticked tick ≡ true → is_gone (state (before ++ e ∷ between)) ≡ false → a.set + high_of c a.arm ≤ tick.moment
    → (is_held (before ++ e ∷ between ++ tick ∷ []) n ≡ true) ⊎ (is_some (last_of (arm_in Ask n) (between ++ tick ∷ [])) ≡ true)
ask_answered c made before between e tick n a r rt k t g w = go (is_held (before ++ e ∷ between) n) refl
  where
    newer : is_held (before ++ e ∷ between) n ≡ false → (o : Option Armed) → last_of (arm_in Ask n) between ≡ o → is_some (or_else (arm_in Ask n tick) o) ≡ true
    newer h (Some x) l = some_then (arm_in Ask n tick) (Some x) refl
    newer h None l =
        let was : exists (before ++ e ∷ []) n ≡ true = ask_exists c before e n a r.arms k (unheld_before before (e ∷ between) n h) in
        let is : exists (before ++ e ∷ between) n ≡ true = subst (λ es. exists es n ≡ true) (append_assoc before (e ∷ []) between) (exists_more (before ++ e ∷ []) between n was) in
        let last : last_ask (before ++ e ∷ between) n ≡ Some a =
        last_of-append (arm_in Ask n) before (e ∷ between)
        ∙ ap (λ o. or_else (or_else o (arm_in Ask n e)) (last_of (arm_in Ask n) before)) l
        ∙ ap (λ o. or_else o (last_of (arm_in Ask n) before)) k in
        some_first (arm_in Ask n tick) None
        (asks_again c made (before ++ e ∷ between) tick n a rt t g (unheld_missing (before ++ e ∷ between) n is h) last
        (over_by c tick a (waits_at_most Ask n c before e a r.arms k) w))

    go : (b : Bool) → is_held (before ++ e ∷ between) n ≡ b → (is_held (before ++ e ∷ between ++ tick ∷ []) n ≡ true) ⊎ (is_some (last_of (arm_in Ask n) (between ++ tick ∷ [])) ≡ true)
    go true h = inl (held_more (before ++ e ∷ between) (tick ∷ []) n h)
    go false h = inr (ap is_some (last_of-snoc (arm_in Ask n) between tick) ∙ newer h (last_of (arm_in Ask n) between) refl)

-- a repair timer that ran out is answered by a repair

ask_kind : (f : ℕ → WaitBasis) (s : WaitBasis) (o : Option ℕ) → ((i : ℕ) → (f i).kind ≡ Ask) → option_map f o ≡ Some s → s.kind ≡ Ask
ask_kind f s None k e = absurd (cc)
ask_kind f s (Some i) k e = let h : f i ≡ s = cc in ap (λ (t : WaitBasis). t.kind) (sym h) ∙ k i

-- a repair arm is of a held name, for a request
fix_of_held : (c : Config) (before : List Entry) (e : Entry) (n : FullName) (a : Armed) → ArmsRight c before e → arm_in Fix n e ≡ Some a → (is_held before n ≡ true) × (asks_for n e ≡ true)
fix_of_held c before e n a r k = go (is_held before n) refl
  where
    some : is_some (basis_of c before e n) ≡ true
    some = set_by Fix n c before e a r k

    asks : (b : Bool) (f : ℕ → WaitBasis) (o : Option ℕ) → is_some (if b then option_map f o else None) ≡ true → is_some o ≡ true
    asks true f (Some x) s = refl
    asks true f None s = s
    asks false f o s = absurd (cc)

    go : (b : Bool) → is_held before n ≡ b → (is_held before n ≡ true) × (asks_for n e ≡ true)
    go true h = (
      h,
      asks (is_held before n && not (is_some (fix_running before n)) && not (held_off c before n e.moment)) (fix_at c before) (asker n e)
          (ap (λ b. is_some (if b then fix_basis_of c before e n else ask_basis_of c before e n)) (sym h) ∙ some),
    )
    go false h =
        let (s, q) = some_of (basis_of c before e n) some in
        let fix : s.kind ≡ Fix = kind_set Fix n c before e a s r k q in
        let ask : s.kind ≡ Ask = ask_kind (ask_at c (before ++ e ∷ []) n) s (ask_exponent before e n) (λ i. refl)
        (ap (λ b. if b then fix_basis_of c before e n else ask_basis_of c before e n) (sym h) ∙ q) in
        absurd (cc)

fix_begins : (c : Config) (made : ℕ) (before : List Entry) (e : Entry) (n : FullName) (a : Armed) → EntryRight c made (record { before = before; this = e })
    → arm_in Fix n e ≡ Some a → (fix_running (before ++ e ∷ []) n ≡ Some a) × (is_held (before ++ e ∷ []) n ≡ true)
fix_begins c made before e n a r k =
    let of = fix_of_held c before e n a r.arms k in (
      fix_running-snoc before e n
          ∙ ap (λ b. if b then None else or_else (arm_in Fix n e) (fix_running before n)) (asked_unrepaired before e n r.timers of.1)
          ∙ ap (λ o. or_else o (fix_running before n)) k,
      held_more before (e ∷ []) n of.0,
    )

fix_stays : (c : Config) (made : ℕ) (before : List Entry) (e : Entry) (n : FullName) (a : Armed) → EntryRight c made (record { before = before; this = e })
    → fix_running before n ≡ Some a → is_held before n ≡ true → repaired n e ≡ false → fix_running (before ++ e ∷ []) n ≡ Some a
fix_stays c made before e n a r f h p =
    fix_running-snoc before e n
    ∙ ap (λ b. if b then None else or_else (arm_in Fix n e) (fix_running before n)) p
    ∙ ap (λ o. or_else o (fix_running before n))
    (unset_by Fix n c before e r.arms
    (ap (λ b. if b then fix_basis_of c before e n else ask_basis_of c before e n) h
    ∙ ap (λ t. if t && not (is_some (fix_running before n)) && not (held_off c before n e.moment) then option_map (fix_at c before) (asker n e) else None) h
    ∙ ap (λ t. if not (is_some t) && not (held_off c before n e.moment) then option_map (fix_at c before) (asker n e) else None) f))
    ∙ f

fix_runs_on : (c : Config) (made : ℕ) (n : FullName) (a : Armed) (before between : List Entry) → fix_running before n ≡ Some a → is_held before n ≡ true
    → AllByRecursion (EntryRight c made) (steps_after before between)
    → (list_any (repaired n) between ≡ true) ⊎ (fix_running (before ++ between) n ≡ Some a)
fix_runs_on c made n a before [] f h all = inr (subst (λ es. fix_running es n ≡ Some a) (sym (append-nil before)) f)
fix_runs_on c made n a before (x ∷ xs) f h all =
    go (repaired n x) refl (λ p. fix_runs_on c made n a (before ++ x ∷ []) xs (fix_stays c made before x n a all.0 f h p) (held_more before (x ∷ []) n h) all.1)
  where
    go : (b : Bool) → repaired n x ≡ b → (repaired n x ≡ false → (list_any (repaired n) xs ≡ true) ⊎ (fix_running ((before ++ x ∷ []) ++ xs) n ≡ Some a))
        → (list_any (repaired n) (x ∷ xs) ≡ true) ⊎ (fix_running (before ++ x ∷ xs) n ≡ Some a)
    go true p more = inl (ap (λ b. b || list_any (repaired n) xs) p)
    go false p more = elim (more p) [
      | inl l ↦ inl (ap (λ b. repaired n x || b) l ∙ or-true (repaired n x))
      | inr l ↦ inr (subst (λ es. fix_running es n ≡ Some a) (append_assoc before (x ∷ []) xs) l)
    ]

repairs_at : (past : List Entry) (tick : Entry) (n : FullName) (a : Armed) → TimersRight past tick → ticked tick ≡ true → is_gone (state past) ≡ false
    → fix_running past n ≡ Some a → runs_out_at a ≤ tick.moment → repaired n tick ≡ true
repairs_at past tick n a r t g f w =
    let due : fix_due past n tick.moment ≡ true =
    ap (λ b. not b && ran_out tick.moment (fix_running past n)) g ∙ ap (ran_out tick.moment) f ∙ le-leb (runs_out_at a) tick.moment w in
    let handed : among tick.effects.fixes n ≡ true = r.fixes.exact n ∙ ap (λ b. b && fix_due past n tick.moment) t ∙ due in
    ap (λ b. repairs_in n (accepted tick) || b) handed ∙ or-true (repairs_in n (accepted tick))

fix_answered : (c : Config) (made : ℕ) (before between : List Entry) (e tick : Entry) (n : FullName) (a : Armed)
    → EntryRight c made (record { before = before; this = e }) → AllByRecursion (EntryRight c made) (steps_after (before ++ e ∷ []) between)
    → EntryRight c made (record { before = before ++ e ∷ between; this = tick })
    → arm_in Fix n e ≡ Some a → ticked tick ≡ true → is_gone (state (before ++ e ∷ between)) ≡ false → a.set + high_of c a.arm ≤ tick.moment
    → list_any (repaired n) (between ++ tick ∷ []) ≡ true
fix_answered c made before between e tick n a r all rt k t g w =
    let begun = fix_begins c made before e n a r k in
    list_any-snoc (repaired n) between tick ∙ elim (fix_runs_on c made n a (before ++ e ∷ []) between begun.0 begun.1 all) [
      | inl l ↦ ap (λ b. b || repaired n tick) l
      | inr f ↦ ap (λ b. list_any (repaired n) between || b)
          (repairs_at (before ++ e ∷ between) tick n a rt.timers t g (subst (λ es. fix_running es n ≡ Some a) (append_assoc before (e ∷ []) between) f)
          (over_by c tick a (waits_at_most Fix n c before e a r.arms k) w)) ∙ or-true (list_any (repaired n) between)
    ]

-- the law

-- the entries of a run at a place, after it, and at a later place
pub run_at : (c : Config) (made : ℕ) (es before after : List Entry) (e : Entry) → AllByRecursion (EntryRight c made) (steps es) → es ≡ before ++ e ∷ after
    → AllByRecursion (EntryRight c made) (steps_after before (e ∷ after))
run_at c made es before after e all q = steps_from (EntryRight c made) [] before (e ∷ after) (subst (λ xs. AllByRecursion (EntryRight c made) (steps xs)) q all)

run_later : (c : Config) (made : ℕ) (before between after : List Entry) (e tick : Entry) → AllByRecursion (EntryRight c made) (steps_after (before ++ e ∷ []) (between ++ tick ∷ after))
    → EntryRight c made (record { before = before ++ e ∷ between; this = tick })
run_later c made before between after e tick all =
    (subst (λ es. AllByRecursion (EntryRight c made) (steps_after es (tick ∷ after))) (append_assoc before (e ∷ []) between)
    (steps_from (EntryRight c made) (before ++ e ∷ []) between (tick ∷ after) all)).0

pub response_law : ResponseLaw
response_law c made es run = record {
  asking = each_missing_asked c made es run.each;
  fixing = λ before after e n q h o a. fix_armed c made before e n (run_at c made es before after e run.each q).0 h o a;
  asked = λ before between after e tick n a q k t g w.
      let all = run_at c made es before (between ++ tick ∷ after) e run.each (q ∙ append_assoc before (e ∷ between) (tick ∷ after)) in
      ask_answered c made before between e tick n a all.0 (run_later c made before between after e tick all.1) k t g w;
  fixed = λ before between after e tick n a q k t g w.
      let all = run_at c made es before (between ++ tick ∷ after) e run.each (q ∙ append_assoc before (e ∷ between) (tick ∷ after)) in
      fix_answered c made before between e tick n a all.0 (steps_front (EntryRight c made) (before ++ e ∷ []) between (tick ∷ after) all.1)
      (run_later c made before between after e tick all.1) k t g w;
}
