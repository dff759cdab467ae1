-- The timers in the middle of an entry: which were set, and which names were gained and repaired so far; and what each call keeps.
use Rattle.std.proofs.Common.{◌≡◌, ℕ, ◌+◌, ◌*◌, ◌≤◌, min, Bool, true, false, ◌&&◌, ◌||◌, List, [], ◌∷◌, ◌++◌, refl, ap, sym, ◌∙◌, subst, arith, inl, inr}
use Rattle.std.specs.Prelude.{◌⊎◌, nat_lt, nat_le, if◌then◌else◌, Option, Some, None, is_some, option_map, IfSome, Result, Ok, Err, IfOk}
use Rattle.std.proofs.lemmas.Bool.Decides.{nat_tests}
use Rattle.srm_names.specs.FullName.{FullName}
use Rattle.srm_names.specs.Histories.{or_else, first_of}
use Rattle.srm_names.specs.Names.{name_below, ascending, among}
use Rattle.srm_names.proofs.Snoc.{first_of-snoc}
use Rattle.srm_timers.specs.declared.arm.Arm.{Arm}
use Rattle.srm_timers.specs.declared.arm.ArmKind.{ArmKind}
use Rattle.srm_timers.specs.declared.arm.ArmKind.TheVariants.{Ask, Fix}
use Rattle.srm_timers.specs.declared.arm.Armed.{Armed}
use Rattle.srm_timers.specs.Arms as timers
use Rattle.srm_timers.specs.Arms.{arm_names, AreChosen, runs_out_at, ran_out, RunsOutFirst, arm_of}
use Rattle.srm_timers.specs.Timers.{armed_at}
use Rattle.srm_deadlines.specs.Least.{lesser}
use Rattle.srm_timers.specs.AskCalls.{AskCall, AskContent, AskFits, AskStays, AskDue, AskTimersRun, AskNext, ArmsOfFound, AskKeepsRoom, ask_timer, first_exponent, AskReady, DetectAndDueReady}
use Rattle.srm_timers.specs.FixCalls.{FixCall, FixContent, FixFits, FixStays, FixDue, FixNext, FixKeepsRoom, FixPlace, fix_timer, asked_first, calls_hold_off, FixPlaces}
use Rattle.srm_timers.specs.Distances.{distance_to}
use Rattle.srm_timers.proofs.Arming.{chosen-append}
use Rattle.srm_entries.specs.declared.entry.Entry.{Entry}
use Rattle.srm_entries.specs.Configs.{Config}
use Rattle.srm_entries.specs.Entries.{is_missing}
use Rattle.srm_entries.specs.Distances.{distance}
use Rattle.srm_entries.specs.Timers.{arm_in, last_ask, asker, repaired, first_asker, fix_running, held_off, low_of, high_of, ask_running, only_if}
use Rattle.srm_agent_state.specs.TimersKept.{TimersContent, TimersFit}
use Rattle.srm_agent_state.specs.TimerCalls.{KeepSettings, WaitsAreChosen, TimersStay, AreDueAsks, AreDueFixes, AsksRanOut, FixesRanOut, IsBefore, TimersNext, RequestsNext, RepairsNext}
use Rattle.srm_entries.proofs.Adding.{last_ask-snoc, fix_running-snoc, held_off-snoc}
use Rattle.srm_entries.proofs.Setting.{of_kind, find_kind, all_asks, chosen_asks}

-- the timer that an arm of a kind made, by these arms
abbrev pub armed_as : ArmKind → ℕ → List Arm → FullName → Option Armed
armed_as kind now arms n = option_map (armed_at now) (of_kind kind (arm_of n arms))

-- These arms were set, these names gained, these asked for by someone, and these repaired, and held off until a moment.
pub record Midway (c : Config) (past : List Entry) (now : ℕ) (arms : List Arm) (gained : FullName → Bool) (asked : FullName → Option ℕ) (ended : FullName → Bool) (until : FullName → ℕ) (t : TimersContent) : Type 0 where
  pub ask_calls : List AskCall
  pub asks : AskFits c.c1 c.c2 ask_calls t.asks
  pub ask_timers : (n : FullName) → ask_timer ask_calls n ≡ or_else (armed_as Ask now arms n) (if gained n then None else ask_running past n)
  pub fix_calls : List FixCall
  pub fixes : FixFits c.d1 c.d2 fix_calls t.fixes
  pub fix_timers : (n : FullName) → fix_timer fix_calls n ≡ or_else (armed_as Fix now arms n) (if ended n then None else fix_running past n)
  pub askers : (n : FullName) → asked_first fix_calls n ≡ or_else (first_of (asker n) past) (asked n)
  pub hold_offs : (n : FullName) (u : ℕ) → calls_hold_off fix_calls n u ≡ held_off c past n u || ended n && nat_lt u (until n)

-- The entry with these arms does just that.
pub record Does (c : Config) (past : List Entry) (e : Entry) (now : ℕ) (arms : List Arm) (gained : FullName → Bool) (asked : FullName → Option ℕ) (ended : FullName → Bool) (until : FullName → ℕ) : Type 0 where
  pub moment : e.moment ≡ now
  pub arms_are : e.effects.arms ≡ arms
  pub rising : ascending name_below (arm_names arms) ≡ true
  pub set_missing : (n : FullName) → is_some (of_kind Ask (arm_of n arms)) ≡ true → is_missing (past ++ e ∷ []) n ≡ true
  pub gained_held : (n : FullName) → gained n ≡ true → is_missing (past ++ e ∷ []) n ≡ false
  pub others_stay : (n : FullName) → is_some (of_kind Ask (arm_of n arms)) ≡ false → gained n ≡ false → is_missing (past ++ e ∷ []) n ≡ is_missing past n
  pub asked_is : (n : FullName) → asker n e ≡ asked n
  pub ended_is : (n : FullName) → repaired n e ≡ ended n
  pub ended_unset : (n : FullName) → ended n ≡ true → of_kind Fix (arm_of n arms) ≡ None
  pub until_is : (n : FullName) → ended n ≡ true → until n ≡ now + 3 * distance c (past ++ e ∷ []) (first_asker past n)

-- the timers after it: the arm, else what ran before, for what is missing then
timers_join : (now : ℕ) (o : Option Arm) (f s m m' : Bool) (last : Option Armed) → is_some o ≡ f → (f ≡ true → m' ≡ true) → (s ≡ true → m' ≡ false) → (f ≡ false → s ≡ false → m' ≡ m)
    → or_else (option_map (armed_at now) o) (if s then None else only_if m last) ≡ only_if m' (or_else (option_map (armed_at now) o) last)
timers_join now (Some x) f s m m' last e p q r = ap (λ b. only_if b (Some (armed_at now x))) (sym (p (sym e)))
timers_join now None f true m m' last e p q r = ap (λ b. only_if b last) (sym (q refl))
timers_join now None f false m m' last e p q r = ap (λ b. only_if b last) (sym (r (sym e) refl))

arm_is : (kind : ArmKind) (n : FullName) (now : ℕ) (arms : List Arm) (e : Entry) → e.moment ≡ now → e.effects.arms ≡ arms → ascending name_below (arm_names arms) ≡ true
    → arm_in kind n e ≡ armed_as kind now arms n
arm_is kind n now arms e at is rising = rw (at, is) (ap (option_map (armed_at now)) (find_kind kind n arms rising))

fixes_join : (o : Option Arm) (now : ℕ) (ended : Bool) (last : Option Armed) → (ended ≡ true → o ≡ None)
    → or_else (option_map (armed_at now) o) (if ended then None else last) ≡ (if ended then None else or_else (option_map (armed_at now) o) last)
fixes_join o now true last e = ap (λ x. or_else (option_map (armed_at now) x) None) (e refl)
fixes_join o now false last e = refl

offs_join : (ended : Bool) (u a b : ℕ) → (ended ≡ true → a ≡ b) → (ended && nat_lt u a) ≡ (ended && nat_lt u b)
offs_join true u a b e = ap (nat_lt u) (e refl)
offs_join false u a b e = refl

pub midway_fits : (c : Config) (past : List Entry) (e : Entry) (now : ℕ) (arms : List Arm) (gained : FullName → Bool) (asked : FullName → Option ℕ) (ended : FullName → Bool) (until : FullName → ℕ) (t : TimersContent)
    → Does c past e now arms gained asked ended until → Midway c past now arms gained asked ended until t → TimersFit c (past ++ e ∷ []) t
midway_fits c past e now arms gained asked ended until t d m = record {
  ask_calls = m.ask_calls;
  asks = m.asks;
  ask_timers = λ n. m.ask_timers n
      ∙ timers_join now (of_kind Ask (arm_of n arms)) (is_some (of_kind Ask (arm_of n arms))) (gained n) (is_missing past n) (is_missing (past ++ e ∷ []) n) (last_ask past n) refl
      (d.set_missing n) (d.gained_held n) (d.others_stay n)
      ∙ ap (only_if (is_missing (past ++ e ∷ []) n)) (sym (last_ask-snoc past e n ∙ ap (λ o. or_else o (last_ask past n)) (arm_is Ask n now arms e d.moment d.arms_are d.rising)));
  fix_calls = m.fix_calls;
  fixes = m.fixes;
  fix_timers = λ n. m.fix_timers n
      ∙ fixes_join (of_kind Fix (arm_of n arms)) now (ended n) (fix_running past n) (d.ended_unset n)
      ∙ sym (fix_running-snoc past e n ∙ ap (λ (b : Bool). if b then None else or_else (arm_in Fix n e) (fix_running past n)) (d.ended_is n)
      ∙ ap (λ o. if ended n then None else or_else o (fix_running past n)) (arm_is Fix n now arms e d.moment d.arms_are d.rising));
  askers = λ n. m.askers n ∙ sym (first_of-snoc (asker n) past e ∙ ap (or_else (first_of (asker n) past)) (d.asked_is n));
  hold_offs = λ n u. m.hold_offs n u
      ∙ ap (λ b. held_off c past n u || b) (offs_join (ended n) u (until n) (e.moment + 3 * distance c (past ++ e ∷ []) (first_asker past n))
      (λ en. d.until_is n en ∙ ap (λ k. k + 3 * distance c (past ++ e ∷ []) (first_asker past n)) (sym d.moment)))
      ∙ sym (held_off-snoc c past e n u ∙ ap (λ b. held_off c past n u || (b && nat_lt u (e.moment + 3 * distance c (past ++ e ∷ []) (first_asker past n)))) (d.ended_is n));
}

-- what the parts keep, the timers keep

pub asks_stay : (asks asks' : AskContent) (fixes : FixContent) → AskStays asks asks' → TimersStay (record { asks = asks; fixes = fixes }) (record { asks = asks'; fixes = fixes })
asks_stay asks asks' fixes p = record {
  each = λ c past h. record {
    ask_calls = h.ask_calls;
    asks = p.each c.c1 c.c2 h.ask_calls h.asks;
    ask_timers = h.ask_timers;
    fix_calls = h.fix_calls;
    fixes = h.fixes;
    fix_timers = h.fix_timers;
    askers = h.askers;
    hold_offs = h.hold_offs;
  };
}

pub fixes_stay : (asks : AskContent) (fixes fixes' : FixContent) → FixStays fixes fixes' → TimersStay (record { asks = asks; fixes = fixes }) (record { asks = asks; fixes = fixes' })
fixes_stay asks fixes fixes' p = record {
  each = λ c past h. record {
    ask_calls = h.ask_calls;
    asks = h.asks;
    ask_timers = h.ask_timers;
    fix_calls = h.fix_calls;
    fixes = p.each c.d1 c.d2 h.fix_calls h.fixes;
    fix_timers = h.fix_timers;
    askers = h.askers;
    hold_offs = h.hold_offs;
  };
}

pub both_stay : (asks asks' : AskContent) (fixes fixes' : FixContent) → AskStays asks asks' → FixStays fixes fixes' → TimersStay (record { asks = asks; fixes = fixes }) (record { asks = asks'; fixes = fixes' })
both_stay asks asks' fixes fixes' p q = record {
  each = λ c past h. (fixes_stay asks' fixes fixes' q).each c past ((asks_stay asks asks' fixes p).each c past h);
}

pub keep_on : (a b d : TimersContent) → KeepSettings a b → KeepSettings b d → KeepSettings a d
keep_on a b d p q = record { each = λ c h. q.each c (p.each c h) }

pub asks_keep : (asks asks' : AskContent) (fixes : FixContent) → AskKeepsRoom asks asks' → KeepSettings (record { asks = asks; fixes = fixes }) (record { asks = asks'; fixes = fixes })
asks_keep asks asks' fixes h = record { each = λ c s. record { c1 = h.c1 ∙ s.c1; c2 = h.c2 ∙ s.c2; d1 = s.d1; d2 = s.d2 } }

pub fixes_keep : (asks : AskContent) (fixes fixes' : FixContent) → FixKeepsRoom fixes fixes' → KeepSettings (record { asks = asks; fixes = fixes }) (record { asks = asks; fixes = fixes' })
fixes_keep asks fixes fixes' h = record { each = λ c s. record { c1 = s.c1; c2 = s.c2; d1 = h.d1 ∙ s.d1; d2 = h.d2 ∙ s.d2 } }

pub stay_on : (a b d : TimersContent) → TimersStay a b → TimersStay b d → TimersStay a d
stay_on a b d p q = record { each = λ c past h. q.each c past (p.each c past h) }

pub on_ok : {X E : Type 0} {P : X → Type 0} (r : Result X E) → ((x : X) → r ≡ Ok x → P x) → IfOk r P
on_ok (Ok x) f = f x refl
on_ok (Err e) f = tt

pub asks_keep_with : (asks asks' : AskContent) (fixes : FixContent) → asks'.c1 ≡ asks.c1 → asks'.c2 ≡ asks.c2 → KeepSettings (record { asks = asks; fixes = fixes }) (record { asks = asks'; fixes = fixes })
asks_keep_with asks asks' fixes p q = record { each = λ c s. record { c1 = p ∙ s.c1; c2 = q ∙ s.c2; d1 = s.d1; d2 = s.d2 } }

pub fixes_keep_with : (asks : AskContent) (fixes fixes' : FixContent) → fixes'.d1 ≡ fixes.d1 → fixes'.d2 ≡ fixes.d2 → KeepSettings (record { asks = asks; fixes = fixes }) (record { asks = asks; fixes = fixes' })
fixes_keep_with asks fixes fixes' p q = record { each = λ c s. record { c1 = s.c1; c2 = s.c2; d1 = p ∙ s.d1; d2 = q ∙ s.d2 } }

pub waits_before : {W : Type 0} (next_word : W → ℕ × W) (a b : TimersContent) (from to : W) (arms : List Arm) → KeepSettings a b → WaitsAreChosen next_word b from arms to → WaitsAreChosen next_word a from arms to
waits_before next_word a b from to arms k h = record { each = λ c s. h.each c (k.each c s) }

-- room for one name
pub first_placed : (name : FullName) (a b : FixContent) → FixPlace a name → b ≡ a → FixPlace b name
first_placed name a b place same = subst (λ (x : FixContent). FixPlace x name) (sym same) place

pub placed_if : (repaired : Bool) (name : FullName) (a b : FixContent) → (repaired ≡ true → FixPlace a name) → b ≡ a → repaired ≡ true → FixPlace b name
placed_if repaired name a b place same is = first_placed name a b (place is) same

-- what is as it was
pub all_stays : (t : TimersContent) → TimersStay t t
all_stays t = record { each = λ c past h. h }

pub fixes_same : (t : FixContent) → FixStays t t
fixes_same t = record { each = λ d1 d2 calls h. h }

pub settings_same : (t : TimersContent) → KeepSettings t t
settings_same t = record { each = λ c s. s }

-- the waits of arms of requests
pub waits_drawn : {W : Type 0} (next_word : W → ℕ × W) (asks : AskContent) (fixes : FixContent) (names asked : List FullName) (dist : List ℕ) (from to : W) (arms : List Arm) → ArmsOfFound names asked dist arms
    → AreChosen next_word (timers.low_of asks.c1) (timers.high_of asks.c1 asks.c2) from arms to → WaitsAreChosen next_word (record { asks = asks; fixes = fixes }) from arms to
waits_drawn next_word asks fixes names asked dist from to arms first drawn = record {
  each = λ c s. chosen_asks next_word c asks.c1 asks.c2 from to arms s.c1 s.c2
      (all_asks arms (among names) (first_exponent asked) (λ n. distance_to dist n.stream.source) first.are.in_order first.are.exact) drawn;
}

-- what is due

shown_ran_out : (now : ℕ) (b : Bool) (o : Option Armed) → ran_out now (only_if b o) ≡ (b && ran_out now o)
shown_ran_out now true o = refl
shown_ran_out now false o = refl

pub asks_pending : (now : ℕ) (t : TimersContent) (names : List FullName) → AskDue now t.asks names → AsksRanOut now t names
asks_pending now t names due = record {
  each = λ c past h. record {
    in_order = (due.each c.c1 c.c2 h.ask_calls h.asks).in_order;
    exact = λ n. (due.each c.c1 c.c2 h.ask_calls h.asks).exact n ∙ ap (ran_out now) (h.ask_timers n) ∙ shown_ran_out now (is_missing past n) (last_ask past n);
  };
}

pub fixes_pending : (now : ℕ) (t : TimersContent) (names : List FullName) → FixDue now t.fixes names → FixesRanOut now t names
fixes_pending now t names due = record {
  each = λ c past h. record {
    in_order = (due.each c.d1 c.d2 h.fix_calls h.fixes).in_order;
    exact = λ n. (due.each c.d1 c.d2 h.fix_calls h.fixes).exact n ∙ ap (ran_out now) (h.fix_timers n);
  };
}

pub asks_due : (now : ℕ) (t : TimersContent) (names : List FullName) → AskDue now t.asks names → ascending name_below names ≡ true → AskTimersRun names t.asks → AreDueAsks now t names
asks_due now t names due rising run = record { due = due; rising = rising; run = run }

pub fixes_due : (now : ℕ) (t : TimersContent) (names : List FullName) → FixDue now t.fixes names → ascending name_below names ≡ true → AreDueFixes now t names
fixes_due now t names due rising = record { due = due; rising = rising }

-- the first of the timers of one kind

none_before : (timer : FullName → Option Armed) (moment : Option ℕ) (u : ℕ) → RunsOutFirst timer moment → IsBefore u moment → (n : FullName) → ran_out u (timer n) ≡ false
none_before timer None u h before n = ap (ran_out u) (h.none refl n)
none_before timer (Some t) u h before n = go (timer n) (h.least n)
  where
    go : (o : Option Armed) → IfSome o (λ a. t ≤ runs_out_at a) → ran_out u o ≡ false
    go None k = refl
    go (Some a) k = grind (arith, nat_tests)

first_to_run_out : (timer : FullName → Option Armed) (t : ℕ) → RunsOutFirst timer (Some t) → (n : FullName) × (ran_out t (timer n) ≡ true)
first_to_run_out timer t h = let (n, e) = h.is_one in (n, go (timer n) e)
  where
    go : (o : Option Armed) → option_map runs_out_at o ≡ Some t → ran_out t o ≡ true
    go None e = absurd (cc)
    go (Some a) e = let same : runs_out_at a ≡ t = cc in grind (arith, nat_tests)

pub before_first : (u : ℕ) (a b : Option ℕ) → IsBefore u (lesser a b) → IsBefore u a
before_first u None b h = tt
before_first u (Some t) None h = h
before_first u (Some t) (Some r) h = omega (arith, h)

pub before_second : (u : ℕ) (a b : Option ℕ) → IsBefore u (lesser a b) → IsBefore u b
before_second u a None h = tt
before_second u None (Some r) h = h
before_second u (Some t) (Some r) h = omega (arith, h)

one_of_both : (asks fixes : FullName → Option Armed) (a b : Option ℕ) → RunsOutFirst asks a → RunsOutFirst fixes b
    → IfSome (lesser a b) (λ t. (n : FullName) × ((ran_out t (asks n) ≡ true) ⊎ (ran_out t (fixes n) ≡ true)))
one_of_both asks fixes None None p q = tt
one_of_both asks fixes None (Some r) p q = let (n, e) = first_to_run_out fixes r q in (n, inr e)
one_of_both asks fixes (Some t) None p q = let (n, e) = first_to_run_out asks t p in (n, inl e)
one_of_both asks fixes (Some t) (Some r) p q = go (nat_le t r) refl
  where
    go : (b : Bool) → nat_le t r ≡ b → (n : FullName) × ((ran_out (min t r) (asks n) ≡ true) ⊎ (ran_out (min t r) (fixes n) ≡ true))
    go true e =
        let (n, k) = first_to_run_out asks t p in
        let same : min t r ≡ t = grind (arith, nat_tests) in
        (n, inl (ap (λ x. ran_out x (asks n)) same ∙ k))
    go false e =
        let (n, k) = first_to_run_out fixes r q in
        let same : min t r ≡ r = grind (arith, nat_tests) in
        (n, inr (ap (λ x. ran_out x (fixes n)) same ∙ k))

-- the timers of the calls are those of the entries
same_first : (timer told : FullName → Option Armed) (moment : Option ℕ) → ((n : FullName) → timer n ≡ told n) → RunsOutFirst timer moment → RunsOutFirst told moment
same_first timer told moment same h = record {
  none = λ e n. sym (same n) ∙ h.none e n;
  least = least moment h.least;
  is_one = one moment h.is_one;
}
  where
    least : (m : Option ℕ) → IfSome m (λ t. (n : FullName) → IfSome (timer n) (λ a. t ≤ runs_out_at a)) → IfSome m (λ t. (n : FullName) → IfSome (told n) (λ a. t ≤ runs_out_at a))
    least None h = h
    least (Some t) h = λ n. subst (λ o. IfSome o (λ a. t ≤ runs_out_at a)) (same n) (h n)

    one : (m : Option ℕ) → IfSome m (λ t. (n : FullName) × (option_map runs_out_at (timer n) ≡ Some t)) → IfSome m (λ t. (n : FullName) × (option_map runs_out_at (told n) ≡ Some t))
    one None h = h
    one (Some t) (n, e) = (n, ap (option_map runs_out_at) (sym (same n)) ∙ e)

pub first_request : (t : TimersContent) (a : Option ℕ) → AskNext t.asks a → RequestsNext t a
first_request t a asks = record { each = λ c past h. same_first (ask_timer h.ask_calls) (ask_running past) a h.ask_timers (asks.each c.c1 c.c2 h.ask_calls h.asks) }

pub first_repair : (t : TimersContent) (b : Option ℕ) → FixNext t.fixes b → RepairsNext t b
first_repair t b fixes = record { each = λ c past h. same_first (fix_timer h.fix_calls) (fix_running past) b h.fix_timers (fixes.each c.d1 c.d2 h.fix_calls h.fixes) }

pub first_of_both : (t : TimersContent) (a b : Option ℕ) → AskNext t.asks a → FixNext t.fixes b → TimersNext t (lesser a b)
first_of_both t a b asks fixes = record {
  each = λ c past h.
      let p = same_first (ask_timer h.ask_calls) (ask_running past) a h.ask_timers (asks.each c.c1 c.c2 h.ask_calls h.asks) in
      let q = same_first (fix_timer h.fix_calls) (fix_running past) b h.fix_timers (fixes.each c.d1 c.d2 h.fix_calls h.fixes) in
      record {
        no_ask = λ u before n. none_before (ask_running past) a u p (before_first u a b before) n;
        no_fix = λ u before n. none_before (fix_running past) b u q (before_second u a b before) n;
        is_one = one_of_both (ask_running past) (fix_running past) a b p q;
      };
}

-- rooms that stay
pub room_stays : (names : List FullName) (a b : AskContent) → DetectAndDueReady names a → AskKeepsRoom a b → DetectAndDueReady names b
room_stays names a b ready holds =
    let set : AskReady names b = record {
      expiries = record { places = λ n at. holds.expiries.places n (ready.detect.set.expiries.places n at); room = omega (arith, ready.detect.set.expiries.room, holds.expiries.room) };
      timers = λ n at. holds.timers n (ready.detect.set.timers n at);
    } in
    record {
      detect = record { set = set; room = omega (arith, ready.detect.room, holds.detect_room) };
      due = record { set = set; room = omega (arith, ready.due.room, holds.due_room); look_up = omega (arith, ready.due.look_up, holds.names_room) };
    }

pub places_stay : (names : List FullName) (a b : FixContent) → FixPlaces names a → FixKeepsRoom a b → FixPlaces names b
places_stay names a b places holds = record { each = λ n at. holds.each n (places.each n at) }

pub settings_keep : (a b : TimersContent) → AskKeepsRoom a.asks b.asks → FixKeepsRoom a.fixes b.fixes → KeepSettings a b
settings_keep a b p q = record { each = λ c s. record { c1 = p.c1 ∙ s.c1; c2 = p.c2 ∙ s.c2; d1 = q.d1 ∙ s.d1; d2 = q.d2 ∙ s.d2 } }

-- a choice between nothing and nothing
pub if_none : {X : Type 0} (b : Bool) (o : Option X) → o ≡ None → (if b then o else None) ≡ None
if_none true o e = e
if_none false o e = refl

-- random numbers that are consumed one after another
pub waits_join : {W : Type 0} (next_word : W → ℕ × W) (t : TimersContent) (from mid to : W) (xs ys all : List Arm) → all ≡ xs ++ ys → WaitsAreChosen next_word t from xs mid → WaitsAreChosen next_word t mid ys to → WaitsAreChosen next_word t from all to
waits_join next_word t from mid to xs ys all is h k = rw is (record { each = λ c s. chosen-append next_word (low_of c) (high_of c) from mid to xs ys (h.each c s) (k.each c s) })
