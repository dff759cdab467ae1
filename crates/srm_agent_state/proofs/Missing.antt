-- What data, repairs and session messages do to the timers: each name that becomes missing gets a request timer.
use Rattle.std.proofs.Common.{◌≡◌, ℕ, ◌+◌, ◌*◌, ◌<◌, max, Bool, true, false, not, ◌&&◌, ◌||◌, List, [], ◌∷◌, ◌++◌, map, refl, ap, sym, ◌∙◌, subst, arith}
use Rattle.std.specs.Prelude.{nat_lt, nat_le, if◌then◌else◌, Option, Some, None, is_some, option_map, option_to_list, unwrap_or}
use Rattle.std.specs.List.{list_any, flat_map, AllByRecursion}
use Rattle.std.proofs.lemmas.List.{append-nil}
use Rattle.std.proofs.Math.Bool.{or-false, or-true}
use Rattle.std.proofs.lemmas.Bool.Decides.{nat_tests}
use Rattle.srm_names.specs.declared.limits.TheConstants.{MEMBERS}
use Rattle.srm_names.specs.declared.stream.Stream.{Stream}
use Rattle.srm_names.specs.declared.drawop.Drawop.{Drawop}
use Rattle.srm_names.specs.FullName.{FullName}
use Rattle.srm_names.specs.Histories.{or_else, greatest, first_of}
use Rattle.srm_names.proofs.Snoc.{or_else-none}
use Rattle.srm_names.specs.Names.{same_name, same_stream, name_below, ascending, among}
use Rattle.srm_names.proofs.Same.{same_stream-is}
use Rattle.srm_codec.specs.declared.datagram.Datagram.{Datagram}
use Rattle.srm_codec.specs.declared.datagram.Datagram.TheVariants.{Data, Request, Repair, Session}
use Rattle.srm_codec.specs.Spelling.{names_in, is_name, IsSpellable}
use Rattle.srm_store.specs.Held.{number_in, has_name}
use Rattle.srm_timers.specs.declared.arm.Arm.{Arm}
use Rattle.srm_timers.specs.declared.arm.Armed.{Armed}
use Rattle.srm_timers.specs.declared.arm.ArmKind.TheVariants.{Ask, Fix}
use Rattle.srm_timers.specs.Arms.{WaitBasis, wait_basis, arm_names, arm_of}
use Rattle.srm_timers.specs.AskCalls.{AskCall, Gained, AskFits, AskAdds, ArmsOfFound, sets, ask_timer, found_basis, first_exponent}
use Rattle.srm_timers.specs.AskCalls as asks
use Rattle.srm_timers.specs.FixCalls.{FixCall, FixFits, FixStays, FixRepairs, repair_calls, repair_holds_until}
use Rattle.srm_timers.specs.FixCalls as fixes
use Rattle.srm_timers.specs.Timers.{armed_at}
use Rattle.srm_deadlines.proofs.Same.{same_flip}
use Rattle.srm_timers.proofs.AskSteps.{ask_timer-sets, ask_timer-gained}
use Rattle.srm_timers.proofs.FixSteps.{asked_first-repairs, fix_timer-repairs, calls_hold_off-repairs}
use Rattle.srm_timers.specs.Distances.{distance_to}
use Rattle.srm_entries.specs.Configs.{Config}
use Rattle.srm_entries.specs.declared.entry.Entry.{Entry}
use Rattle.srm_entries.specs.Entries.{accepted, held, evidence_by, drawops_in, names_heard, is_held, is_missing, known}
use Rattle.srm_entries.specs.Distances.{distance}
use Rattle.srm_entries.specs.Timers.{asker, asker_in, first_asker, repaired, repairs_in, ask_exponent, ask_basis_of, fix_basis_of, basis_of, fix_running, held_off, ArmsRight, ask_running}
use Rattle.srm_agent_state.specs.TimersKept.{TimersContent, HaveSettings, TimersFit}
use Rattle.srm_agent_state.specs.TimerCalls.{AreNewlyMissing, HearsWith, KeepSettings, AreDistancesAfter, TimersHear, WaitsAreChosen, FixEnds, IsDataOf, IsDrawopOf, IsRepairOf, IsSession}
use Rattle.srm_entries.proofs.Adding.{shows, gains, is_held-snoc, is_missing-snoc}
use Rattle.srm_entries.proofs.Arming.{ask_at}
use Rattle.srm_entries.proofs.Setting.{of_kind, asks_of, fixes_of, is_armed, chosen_waits}
use Rattle.srm_agent_state.proofs.Midway.{Does, if_none, midway_fits, armed_as, waits_before}

-- what an entry that hears a datagram gains and shows

pub gains_heard : (e : Entry) (g : Datagram) (n : FullName) → accepted e ≡ Some g → e.effects.drawn ≡ None → gains e n ≡ list_any (has_name n) (drawops_in (Some g))
gains_heard e g n h d =
    ap (list_any (has_name n)) (append-nil (option_to_list e.effects.drawn ++ drawops_in (accepted e)))
    ∙ ap (λ o. list_any (has_name n) (option_to_list o ++ drawops_in (accepted e))) d ∙ ap (λ o. list_any (has_name n) (drawops_in o)) h

pub shows_heard : (e : Entry) (g : Datagram) (s : Stream) → accepted e ≡ Some g → e.effects.drawn ≡ None → shows e s ≡ greatest (flat_map (number_in s) (names_in g))
shows_heard e g s h d =
    ap (λ ns. greatest (flat_map (number_in s) ns)) (append-nil (evidence_by e))
    ∙ ap (λ o. greatest (flat_map (number_in s) (map (λ (x : Drawop). x.name) (option_to_list o) ++ names_heard (accepted e)))) d
    ∙ ap (λ o. greatest (flat_map (number_in s) (names_heard o))) h

-- missing before, held before, gained by it, missing after it: of one name

pub held_not_missing : (past : List Entry) (n : FullName) → is_held past n ≡ true → is_missing past n ≡ false
held_not_missing past n h = go (is_held past n) (nat_le 1 n.number) (nat_le n.number (known past n.stream)) h
  where
    go : (h a b : Bool) → h ≡ true → (a && b && not h) ≡ false
    go false a b e = absurd (cc)
    go true true true e = refl
    go true true false e = refl
    go true false b e = refl

-- what an entry gains, and what was held before it, is held after it
pub gained_then : (past : List Entry) (e : Entry) (n : FullName) → gains e n ≡ true → is_missing (past ++ e ∷ []) n ≡ false
gained_then past e n g = held_not_missing (past ++ e ∷ []) n (is_held-snoc past e n ∙ ap (λ b. is_held past n || b) g ∙ or-true (is_held past n))

pub held_then : (past : List Entry) (e : Entry) (n : FullName) → is_held past n ≡ true → is_missing (past ++ e ∷ []) n ≡ false
held_then past e n h = held_not_missing (past ++ e ∷ []) n (is_held-snoc past e n ∙ ap (λ b. b || gains e n) h)

pub stays_missing : (past : List Entry) (e : Entry) (n : FullName) → gains e n ≡ false → is_missing past n ≡ true → is_missing (past ++ e ∷ []) n ≡ true
stays_missing past e n g m = is_missing-snoc past e n ∙ go (is_held past n) (gains e n) n.number (known past n.stream) (shows e n.stream) g m
  where
    go : (h k : Bool) (a b s : ℕ) → k ≡ false → (nat_le 1 a && nat_le a b && not h) ≡ true → (nat_le 1 a && nat_le a (max b s) && not (h || k)) ≡ true
    go h true a b s e m = absurd (cc)
    go true false a b s e m = grind (arith, nat_tests)
    go false false a b s e m = grind (arith, nat_tests)

-- a name that is neither gained nor becomes missing is missing as before
pub others_then : (past : List Entry) (e : Entry) (n : FullName) → (not (is_missing past n) && is_missing (past ++ e ∷ []) n) ≡ false → gains e n ≡ false → is_missing (past ++ e ∷ []) n ≡ is_missing past n
others_then past e n f g = go (is_missing past n) (is_missing (past ++ e ∷ []) n) f (stays_missing past e n g)
  where
    go : (m m' : Bool) → (not m && m') ≡ false → (m ≡ true → m' ≡ true) → m' ≡ m
    go true m' f k = k refl
    go false true f k = absurd (cc)
    go false false f k = refl

pub fresh_then : (past : List Entry) (e : Entry) (n : FullName) → (not (is_missing past n) && is_missing (past ++ e ∷ []) n) ≡ true → (is_missing past n ≡ false) × (is_missing (past ++ e ∷ []) n ≡ true)
fresh_then past e n f = go (is_missing past n) (is_missing (past ++ e ∷ []) n) f
  where
    go : (m m' : Bool) → (not m && m') ≡ true → (m ≡ false) × (m' ≡ true)
    go true m' f = absurd (cc)
    go false true f = (refl, refl)
    go false false f = absurd (cc)

-- what becomes missing is of a stream that the entry names, and above what was known of it

shown_in : (s : Stream) (names : List FullName) (k : ℕ) → k < greatest (flat_map (number_in s) names) → (P : FullName → Type 0) → AllByRecursion P names
    → (m : FullName) × P m × (same_stream s m.stream ≡ true)
shown_in s [] k h P all = absurd (omega (arith, h))
shown_in s (m ∷ names) k h P all = go (same_stream s m.stream) refl h (λ l. shown_in s names k l P all.1)
  where
    go : (b : Bool) → same_stream s m.stream ≡ b → k < greatest ((if b then m.number ∷ [] else []) ++ flat_map (number_in s) names)
        → (k < greatest (flat_map (number_in s) names) → (m : FullName) × P m × (same_stream s m.stream ≡ true)) → (m : FullName) × P m × (same_stream s m.stream ≡ true)
    go true e l more = (m, all.0, e)
    go false e l more = more l

above_known : (h k : Bool) (a b s : ℕ) → (nat_le 1 a && nat_le a b && not h) ≡ false → (nat_le 1 a && nat_le a (max b s) && not (h || k)) ≡ true → b < a
above_known true k a b s m m' = absurd (grind (arith, nat_tests))
above_known false true a b s m m' = absurd (grind (arith, nat_tests))
above_known false false a b s m m' = grind (arith, nat_tests)

shown_above : (h k : Bool) (a b s : ℕ) → (nat_le 1 a && nat_le a b && not h) ≡ false → (nat_le 1 a && nat_le a (max b s) && not (h || k)) ≡ true → b < s
shown_above true k a b s m m' = absurd (grind (arith, nat_tests))
shown_above false true a b s m m' = absurd (grind (arith, nat_tests))
shown_above false false a b s m m' = grind (arith, nat_tests)

pub fresh_above : (past : List Entry) (e : Entry) (n : FullName) → is_missing past n ≡ false → is_missing (past ++ e ∷ []) n ≡ true → known past n.stream < n.number
fresh_above past e n m m' = above_known (is_held past n) (gains e n) n.number (known past n.stream) (shows e n.stream) m (sym (is_missing-snoc past e n) ∙ m')

pub fresh_shown : (past : List Entry) (e : Entry) (g : Datagram) (n : FullName) → accepted e ≡ Some g → e.effects.drawn ≡ None → is_missing past n ≡ false → is_missing (past ++ e ∷ []) n ≡ true
    → (P : FullName → Type 0) → AllByRecursion P (names_in g) → (m : FullName) × P m × (same_stream n.stream m.stream ≡ true)
fresh_shown past e g n h d m m' P all =
    shown_in n.stream (names_in g) (known past n.stream)
    (subst (λ k. known past n.stream < k) (shows_heard e g n.stream h d) (shown_above (is_held past n) (gains e n) n.number (known past n.stream) (shows e n.stream) m (sym (is_missing-snoc past e n) ∙ m')))
    P all

pub names_spelled : (g : Datagram) → IsSpellable g → AllByRecursion is_name (names_in g)
names_spelled (Data d) s = (s.0, tt)
names_spelled (Request sender name mask) s = s.2
names_spelled (Repair sender d) s = (s.1.0, tt)
names_spelled (Session sender sent farewell shown rows echoes) s = s.3.names

-- so its source is in the roster of all members
pub fresh_source : (past : List Entry) (e : Entry) (g : Datagram) (n : FullName) → accepted e ≡ Some g → e.effects.drawn ≡ None → IsSpellable g → is_missing past n ≡ false → is_missing (past ++ e ∷ []) n ≡ true
    → n.stream.source < MEMBERS
fresh_source past e g n h d s m m' =
    let (k, name, same) = fresh_shown past e g n h d m m' is_name (names_spelled g s) in
    subst (λ (t : Stream). t.source < MEMBERS) (sym (same_stream-is n.stream k.stream same)) name.0

-- The arms of such an entry, if it hears no request: those of the names that become missing.

unasked : (c : Config) (past : List Entry) (e : Entry) (n : FullName) → asker n e ≡ None → e.effects.asks ≡ []
    → basis_of c past e n ≡ (if is_held past n then None else option_map (ask_at c (past ++ e ∷ []) n) (if is_missing past n then None else if is_missing (past ++ e ∷ []) n then Some 0 else None))
unasked c past e n none nothing = go (is_held past n)
  where
    fix : fix_basis_of c past e n ≡ None
    fix = if_none (is_held past n && not (is_some (fix_running past n)) && not (held_off c past n e.moment)) _ (rw none refl)

    exponent : (m m' : Bool) → is_missing past n ≡ m → is_missing (past ++ e ∷ []) n ≡ m' → ask_exponent past e n ≡ (if m then None else if m' then Some 0 else None)
    exponent true m' p q = rw (p, none, nothing) refl
    exponent false true p q = rw (p, q, none) refl
    exponent false false p q = rw (p, q) refl

    go : (h : Bool) → (if h then fix_basis_of c past e n else ask_basis_of c past e n)
        ≡ (if h then None else option_map (ask_at c (past ++ e ∷ []) n) (if is_missing past n then None else if is_missing (past ++ e ∷ []) n then Some 0 else None))
    go true = fix
    go false = ap (option_map (ask_at c (past ++ e ∷ []) n)) (exponent (is_missing past n) (is_missing (past ++ e ∷ []) n) refl refl)

fresh_by : (f h m m' : Bool) (wanted : WaitBasis) (armed : ℕ → WaitBasis) → f ≡ (not m && m') → (h ≡ true → m' ≡ false) → (f ≡ true → wanted ≡ armed 0)
    → (if f then Some wanted else None) ≡ (if h then None else option_map armed (if m then None else if m' then Some 0 else None))
fresh_by f h m m' wanted armed e q s = ap (λ (b : Bool). if b then Some wanted else None) e ∙ go h m m' q (λ k. s (e ∙ k))
  where
    go : (h m m' : Bool) → (h ≡ true → m' ≡ false) → ((not m && m') ≡ true → wanted ≡ armed 0)
        → (if (not m && m') then Some wanted else None) ≡ (if h then None else option_map armed (if m then None else if m' then Some 0 else None))
    go true true m' q s = refl
    go true false true q s = let k : true ≡ false = q refl in absurd (cc)
    go true false false q s = refl
    go false true m' q s = refl
    go false false true q s = ap Some (s refl)
    go false false false q s = refl

found_by : (c : Config) (past : List Entry) (e : Entry) (n : FullName) (newly_missing : List FullName) (dist : List ℕ) → asker n e ≡ None → e.effects.asks ≡ [] → AreNewlyMissing past e newly_missing
    → (among newly_missing n ≡ true → distance_to dist n.stream.source ≡ distance c (past ++ e ∷ []) n.stream.source) → found_basis newly_missing [] dist n ≡ basis_of c past e n
found_by c past e n newly_missing dist none nothing are near =
    fresh_by (among newly_missing n) (is_held past n) (is_missing past n) (is_missing (past ++ e ∷ []) n) (asks.ask_basis 0 (distance_to dist n.stream.source)) (ask_at c (past ++ e ∷ []) n)
    (are.exact n) (held_then past e n) (λ f. ap (λ d. asks.ask_basis 0 d) (near f))
    ∙ sym (unasked c past e n none nothing)

pub settings_fit : (c : Config) (past : List Entry) (t : TimersContent) → TimersFit c past t → HaveSettings c t
settings_fit c past t h = record { c1 = h.asks.c1_is; c2 = h.asks.c2_is; d1 = h.fixes.d1_is; d2 = h.fixes.d2_is }

pub fresh_near : (c : Config) (past : List Entry) (e : Entry) (g : Datagram) (now : ℕ) (arms : List Arm) (newly_missing : List FullName) (dist : List ℕ) (n : FullName) → HearsWith g now arms e → AreNewlyMissing past e newly_missing
    → AreDistancesAfter c (past ++ e ∷ []) dist → among newly_missing n ≡ true → distance_to dist n.stream.source ≡ distance c (past ++ e ∷ []) n.stream.source
fresh_near c past e g now arms newly_missing dist n with_ are d f =
    let k = fresh_then past e n (sym (are.exact n) ∙ f) in
    d.each n.stream.source (fresh_source past e g n with_.heard with_.drawn with_.read k.0 k.1)

-- the arms of an entry that hears no request
arms_right : {W : Type 0} (next_word : W → ℕ × W) (from to : W) (c : Config) (past : List Entry) (e : Entry) (g : Datagram) (now : ℕ) (arms : List Arm) (newly_missing : List FullName) (dist : List ℕ) (t : TimersContent)
    → TimersFit c past t → HearsWith g now arms e → ((n : FullName) → asker n e ≡ None) → AreNewlyMissing past e newly_missing → AreDistancesAfter c (past ++ e ∷ []) dist
    → ArmsOfFound newly_missing [] dist arms → WaitsAreChosen next_word t from arms to → ArmsRight c past e
arms_right next_word from to c past e g now arms newly_missing dist t h with_ none are d first drawn = record {
  are = record {
    in_order = ap (λ as_. ascending name_below (arm_names as_)) with_.arms ∙ first.are.in_order;
    exact = λ n. ap (λ as_. option_map wait_basis (arm_of n as_)) with_.arms ∙ first.are.exact n
        ∙ found_by c past e n newly_missing dist (none n) with_.asks are (fresh_near c past e g now arms newly_missing dist n with_ are d);
  };
  waits = rw with_.arms (chosen_waits next_word c from to arms (drawn.each c (settings_fit c past t h)));
}

-- What it does to the timers, if it gains such names and repairs such names.
does_so : (c : Config) (past : List Entry) (e : Entry) (g : Datagram) (now : ℕ) (arms : List Arm) (newly_missing : List FullName) (dist : List ℕ) (gained ended : FullName → Bool) (until : FullName → ℕ)
    → HearsWith g now arms e → ((n : FullName) → asker n e ≡ None) → AreNewlyMissing past e newly_missing → ArmsOfFound newly_missing [] dist arms
    → ((n : FullName) → gains e n ≡ gained n) → ((n : FullName) → repaired n e ≡ ended n)
    → ((n : FullName) → ended n ≡ true → until n ≡ now + 3 * distance c (past ++ e ∷ []) (first_asker past n))
    → Does c past e now arms gained (λ n. None) ended until
does_so c past e g now arms newly_missing dist gained ended until with_ none are first gain repair hold = record {
  moment = with_.moment;
  arms_are = with_.arms;
  rising = first.are.in_order;
  set_missing = λ n some. (fresh_then past e n (sym (are.exact n) ∙ sym (set n) ∙ some)).1;
  gained_held = λ n k. gained_then past e n (gain n ∙ k);
  others_stay = λ n unset k. others_then past e n (sym (are.exact n) ∙ sym (set n) ∙ unset) (gain n ∙ k);
  asked_is = none;
  ended_is = repair;
  ended_unset = λ n k. fixes_of (arm_of n arms) (among newly_missing n) (first_exponent [] n) (distance_to dist n.stream.source) (first.are.exact n);
  until_is = hold;
}
  where
    set : (n : FullName) → is_some (of_kind Ask (arm_of n arms)) ≡ among newly_missing n
    set n = ap is_some (asks_of (arm_of n arms) (among newly_missing n) (first_exponent [] n) (distance_to dist n.stream.source) (first.are.exact n))
        ∙ is_armed (arm_of n arms) (among newly_missing n) (first_exponent [] n) (distance_to dist n.stream.source) (first.are.exact n)

-- such datagrams ask for nothing, and gain and repair at most the name

abbrev pub no_name : FullName → Bool
no_name n = false

no_asker : (e : Entry) (g : Datagram) (n : FullName) → accepted e ≡ Some g → asker_in n (Some g) ≡ None → asker n e ≡ None
no_asker e g n h none = ap (asker_in n) h ∙ none

one_gained : (n name : FullName) (d : Drawop) → d.name ≡ name → (has_name n d || false) ≡ same_name n name
one_gained n name d is = or-false (same_name d.name n) ∙ same_flip d.name n ∙ ap (same_name n) is

-- what a datagram says of a name: whether it gains and whether it repairs it
record SaysOf (n : FullName) (g : Datagram) (gain repair : Bool) : Type 0 where
  pub asks : asker_in n (Some g) ≡ None
  pub gains : list_any (has_name n) (drawops_in (Some g)) ≡ gain
  pub repairs : repairs_in n (Some g) ≡ repair

session_says : (n : FullName) (g : Datagram) → IsSession g → SaysOf n g false false
session_says n (Session sender sent farewell shown rows echoes) is = record { asks = refl; gains = refl; repairs = refl }
session_says n (Data d) is = absurd is
session_says n (Repair sender d) is = absurd is
session_says n (Request sender name mask) is = absurd is

drawop_says : (repair : Bool) (n name : FullName) (g : Datagram) → IsDrawopOf repair name g → SaysOf n g (same_name n name) (repair && among (name ∷ []) n)
drawop_says false n name (Data d) is = record { asks = refl; gains = one_gained n name d is; repairs = refl }
drawop_says true n name (Repair sender d) is = record { asks = refl; gains = one_gained n name d is; repairs = ap (same_name n) is ∙ sym (or-false (same_name n name)) }
drawop_says false n name (Repair sender d) is = absurd is
drawop_says true n name (Data d) is = absurd is
drawop_says false n name (Session sender sent farewell shown rows echoes) is = absurd is
drawop_says true n name (Session sender sent farewell shown rows echoes) is = absurd is
drawop_says false n name (Request sender other mask) is = absurd is
drawop_says true n name (Request sender other mask) is = absurd is

pub unrepaired : (e : Entry) (g : Datagram) (n : FullName) → accepted e ≡ Some g → e.effects.fixes ≡ [] → repaired n e ≡ repairs_in n (Some g)
unrepaired e g n h none = ap (λ o. repairs_in n o || among e.effects.fixes n) h ∙ ap (λ ns. repairs_in n (Some g) || among ns n) none ∙ or-false (repairs_in n (Some g))

-- the parts after it

-- requests are set, and none of the names is gained
asks_set : (c : Config) (past : List Entry) (now : ℕ) (arms : List Arm) (calls : List AskCall) (newly_missing : List FullName) (dist : List ℕ) (n : FullName)
    → ask_timer calls n ≡ ask_running past n → ArmsOfFound newly_missing [] dist arms
    → ask_timer (calls ++ sets now arms) n ≡ or_else (armed_as Ask now arms n) (ask_running past n)
asks_set c past now arms calls newly_missing dist n h first =
    ask_timer-sets calls now arms n first.are.in_order
    ∙ ap (or_else (option_map (armed_at now) (arm_of n arms))) h
    ∙ ap (λ o. or_else (option_map (armed_at now) o) (ask_running past n)) (sym (asks_of (arm_of n arms) (among newly_missing n) (first_exponent [] n) (distance_to dist n.stream.source) (first.are.exact n)))

gained_last : (s : Bool) (o last : Option Armed) → (s ≡ true → o ≡ None) → (if s then None else or_else o last) ≡ or_else o (if s then None else last)
gained_last true o last e = ap (λ x. or_else x None) (sym (e refl))
gained_last false o last e = refl

-- and a name is gained that isn't among them
asks_gained : (c : Config) (past : List Entry) (e : Entry) (now : ℕ) (arms : List Arm) (calls : List AskCall) (newly_missing : List FullName) (dist : List ℕ) (name n : FullName)
    → ask_timer calls n ≡ ask_running past n → ArmsOfFound newly_missing [] dist arms → AreNewlyMissing past e newly_missing → gains e n ≡ same_name n name
    → ask_timer ((calls ++ sets now arms) ++ Gained name ∷ []) n ≡ or_else (armed_as Ask now arms n) (if same_name n name then None else ask_running past n)
asks_gained c past e now arms calls newly_missing dist name n h first are gain =
    ask_timer-gained (calls ++ sets now arms) name n
    ∙ ap (λ o. if same_name n name then None else o) (asks_set c past now arms calls newly_missing dist n h first)
    ∙ gained_last (same_name n name) (armed_as Ask now arms n) (ask_running past n) (λ s. unset (gained_then past e n (gain ∙ s)))
  where
    no_fresh : (m m' : Bool) → m' ≡ false → (not m && m') ≡ false
    no_fresh true m' e = refl
    no_fresh false m' e = e

    none : (o : Option Arm) → is_some o ≡ false → option_map (armed_at now) (of_kind Ask o) ≡ None
    none None e = refl
    none (Some a) e = absurd (cc)

    unset : is_missing (past ++ e ∷ []) n ≡ false → armed_as Ask now arms n ≡ None
    unset m = none (arm_of n arms)
        (is_armed (arm_of n arms) (among newly_missing n) (first_exponent [] n) (distance_to dist n.stream.source) (first.are.exact n) ∙ are.exact n ∙ no_fresh (is_missing past n) (is_missing (past ++ e ∷ []) n) m)

fixes_as_they_were : (past : List Entry) (now : ℕ) (arms : List Arm) (newly_missing : List FullName) (dist : List ℕ) (n : FullName) (last : Option Armed) → ArmsOfFound newly_missing [] dist arms
    → last ≡ or_else (armed_as Fix now arms n) last
fixes_as_they_were past now arms newly_missing dist n last first =
    ap (λ o. or_else (option_map (armed_at now) o) last) (sym (fixes_of (arm_of n arms) (among newly_missing n) (first_exponent [] n) (distance_to dist n.stream.source) (first.are.exact n)))

-- a session message
pub rows_hear : {W : Type 0} (next_word : W → ℕ × W) (from to : W) (newly_missing : List FullName) (dist : List ℕ) (now : ℕ) (arms : List Arm) (old new : TimersContent)
    → AskAdds (sets now arms) old.asks new.asks → new.fixes ≡ old.fixes → ArmsOfFound newly_missing [] dist arms → WaitsAreChosen next_word old from arms to → TimersHear IsSession newly_missing dist now arms old new
rows_hear next_word from to newly_missing dist now arms old new adds same first drawn = record {
  each = λ c past e g is with_ h are d.
      let none : (n : FullName) → asker n e ≡ None = λ n. no_asker e g n with_.heard ((session_says n g is).asks) in
      record {
        arms = arms_right next_word from to c past e g now arms newly_missing dist old h with_ none are d first drawn;
        fits = midway_fits c past e now arms no_name (λ n. None) no_name (λ n. 0) new
            (does_so c past e g now arms newly_missing dist no_name no_name (λ n. 0) with_ none are first
            (λ n. gains_heard e g n with_.heard with_.drawn ∙ (session_says n g is).gains)
            (λ n. unrepaired e g n with_.heard with_.fixes ∙ (session_says n g is).repairs)
            (λ n k. absurd (cc)))
            (record {
              ask_calls = h.ask_calls ++ sets now arms;
              asks = adds.each c.c1 c.c2 h.ask_calls h.asks;
              ask_timers = λ n. asks_set c past now arms h.ask_calls newly_missing dist n (h.ask_timers n) first;
              fix_calls = h.fix_calls;
              fixes = rw same h.fixes;
              fix_timers = λ n. h.fix_timers n ∙ fixes_as_they_were past now arms newly_missing dist n (fix_running past n) first;
              askers = λ n. h.askers n ∙ sym (or_else-none (first_of (asker n) past));
              hold_offs = λ n u. h.hold_offs n u ∙ sym (or-false (held_off c past n u));
            });
      };
}

-- data
data_hears : {W : Type 0} (next_word : W → ℕ × W) (from to : W) (name : FullName) (newly_missing : List FullName) (dist : List ℕ) (now : ℕ) (arms : List Arm) (old roomy set held new : TimersContent)
    → roomy.asks ≡ old.asks → FixStays old.fixes roomy.fixes → KeepSettings old roomy
    → AskAdds (sets now arms) roomy.asks set.asks → set.fixes ≡ roomy.fixes → ArmsOfFound newly_missing [] dist arms → WaitsAreChosen next_word roomy from arms to
    → AskAdds (Gained name ∷ []) set.asks held.asks → held.fixes ≡ set.fixes
    → new.fixes ≡ held.fixes → new.asks ≡ held.asks → TimersHear (IsDataOf name) newly_missing dist now arms old new
data_hears next_word from to name newly_missing dist now arms old roomy set held new roomy_asks stays keeps adds set_fixes first roomy_drawn gained held_fixes new_fixes new_asks = record {
  each = λ c past e g is with_ h are d.
      let none : (n : FullName) → asker n e ≡ None = λ n. no_asker e g n with_.heard ((drawop_says false n name g is).asks) in
      let gain : (n : FullName) → gains e n ≡ same_name n name = λ n. gains_heard e g n with_.heard with_.drawn ∙ (drawop_says false n name g is).gains in
      let drawn : WaitsAreChosen next_word old from arms to = waits_before next_word old roomy from to arms keeps roomy_drawn in
      record {
        arms = arms_right next_word from to c past e g now arms newly_missing dist old h with_ none are d first drawn;
        fits = midway_fits c past e now arms (λ n. same_name n name) (λ n. None) no_name (λ n. 0) new
            (does_so c past e g now arms newly_missing dist (λ n. same_name n name) no_name (λ n. 0) with_ none are first gain
            (λ n. unrepaired e g n with_.heard with_.fixes ∙ (drawop_says false n name g is).repairs)
            (λ n k. absurd (cc)))
            (record {
              ask_calls = (h.ask_calls ++ sets now arms) ++ Gained name ∷ [];
              asks = subst (AskFits c.c1 c.c2 ((h.ask_calls ++ sets now arms) ++ Gained name ∷ [])) (sym new_asks)
                  (gained.each c.c1 c.c2 (h.ask_calls ++ sets now arms) (adds.each c.c1 c.c2 h.ask_calls (subst (AskFits c.c1 c.c2 h.ask_calls) (sym roomy_asks) h.asks)));
              ask_timers = λ n. asks_gained c past e now arms h.ask_calls newly_missing dist name n (h.ask_timers n) first are (gain n);
              fix_calls = h.fix_calls;
              fixes = subst (FixFits c.d1 c.d2 h.fix_calls) (sym (new_fixes ∙ held_fixes ∙ set_fixes)) (stays.each c.d1 c.d2 h.fix_calls h.fixes);
              fix_timers = λ n. h.fix_timers n ∙ fixes_as_they_were past now arms newly_missing dist n (fix_running past n) first;
              askers = λ n. h.askers n ∙ sym (or_else-none (first_of (asker n) past));
              hold_offs = λ n u. h.hold_offs n u ∙ sym (or-false (held_off c past n u));
            });
      };
}

-- until when a repair holds a name off, by the calls and by the entries
pub holds_until : (c : Config) (past : List Entry) (e : Entry) (now : ℕ) (dist : List ℕ) (calls : List FixCall) (n : FullName) → AreDistancesAfter c (past ++ e ∷ []) dist
    → fixes.asked_first calls n ≡ first_of (asker n) past → fixes.first_asker calls n < MEMBERS
    → repair_holds_until now dist calls n ≡ now + 3 * distance c (past ++ e ∷ []) (first_asker past n)
holds_until c past e now dist calls n d asked near =
    ap (λ k. now + 3 * k) (d.each (fixes.first_asker calls n) near ∙ ap (λ o. distance c (past ++ e ∷ []) (unwrap_or o n.stream.source)) asked)

-- a repair
repair_hears : {W : Type 0} (next_word : W → ℕ × W) (from to : W) (name : FullName) (newly_missing : List FullName) (dist : List ℕ) (now : ℕ) (arms : List Arm) (old roomy set held new : TimersContent)
    → roomy.asks ≡ old.asks → FixStays old.fixes roomy.fixes → KeepSettings old roomy
    → AskAdds (sets now arms) roomy.asks set.asks → set.fixes ≡ roomy.fixes → ArmsOfFound newly_missing [] dist arms → WaitsAreChosen next_word roomy from arms to
    → AskAdds (Gained name ∷ []) set.asks held.asks → held.fixes ≡ set.fixes
    → FixRepairs now dist (name ∷ []) held.fixes new.fixes → new.asks ≡ held.asks → TimersHear (IsRepairOf name) newly_missing dist now arms old new
repair_hears next_word from to name newly_missing dist now arms old roomy set held new roomy_asks stays keeps adds set_fixes first roomy_drawn gained held_fixes repaired_ new_asks = record {
  each = λ c past e g is with_ h are d.
      let none : (n : FullName) → asker n e ≡ None = λ n. no_asker e g n with_.heard ((drawop_says true n name g is).asks) in
      let gain : (n : FullName) → gains e n ≡ same_name n name = λ n. gains_heard e g n with_.heard with_.drawn ∙ (drawop_says true n name g is).gains in
      let drawn : WaitsAreChosen next_word old from arms to = waits_before next_word old roomy from to arms keeps roomy_drawn in
      let kept : FixFits c.d1 c.d2 h.fix_calls held.fixes = subst (FixFits c.d1 c.d2 h.fix_calls) (sym (held_fixes ∙ set_fixes)) (stays.each c.d1 c.d2 h.fix_calls h.fixes) in
      record {
        arms = arms_right next_word from to c past e g now arms newly_missing dist old h with_ none are d first drawn;
        fits = midway_fits c past e now arms (λ n. same_name n name) (λ n. None) (λ n. among (name ∷ []) n) (repair_holds_until now dist h.fix_calls) new
            (does_so c past e g now arms newly_missing dist (λ n. same_name n name) (λ n. among (name ∷ []) n) (repair_holds_until now dist h.fix_calls) with_ none are first gain
            (λ n. unrepaired e g n with_.heard with_.fixes ∙ (drawop_says true n name g is).repairs)
            (λ n at. holds_until c past e now dist h.fix_calls n d (h.askers n) (repaired_.near c.d1 c.d2 h.fix_calls kept n at)))
            (record {
              ask_calls = (h.ask_calls ++ sets now arms) ++ Gained name ∷ [];
              asks = subst (AskFits c.c1 c.c2 ((h.ask_calls ++ sets now arms) ++ Gained name ∷ [])) (sym new_asks)
                  (gained.each c.c1 c.c2 (h.ask_calls ++ sets now arms) (adds.each c.c1 c.c2 h.ask_calls (subst (AskFits c.c1 c.c2 h.ask_calls) (sym roomy_asks) h.asks)));
              ask_timers = λ n. asks_gained c past e now arms h.ask_calls newly_missing dist name n (h.ask_timers n) first are (gain n);
              fix_calls = h.fix_calls ++ repair_calls now dist h.fix_calls (name ∷ []);
              fixes = repaired_.each c.d1 c.d2 h.fix_calls kept;
              fix_timers = λ n. fix_timer-repairs now dist h.fix_calls (name ∷ []) n ∙ ap (λ o. if among (name ∷ []) n then None else o) (h.fix_timers n)
                  ∙ fixes_as_they_were past now arms newly_missing dist n (if among (name ∷ []) n then None else fix_running past n) first;
              askers = λ n. asked_first-repairs now dist h.fix_calls (name ∷ []) n ∙ h.askers n ∙ sym (or_else-none (first_of (asker n) past));
              hold_offs = λ n u. calls_hold_off-repairs now dist h.fix_calls (name ∷ []) n u ∙ ap (λ b. b || among (name ∷ []) n && nat_lt u (repair_holds_until now dist h.fix_calls n)) (h.hold_offs n u);
            });
      };
}

-- either
pub drawop_hears : {W : Type 0} (next_word : W → ℕ × W) (from to : W) (repaired : Bool) (name : FullName) (newly_missing : List FullName) (dist : List ℕ) (now : ℕ) (arms : List Arm) (old roomy set held new : TimersContent)
    → roomy.asks ≡ old.asks → FixStays old.fixes roomy.fixes → KeepSettings old roomy
    → AskAdds (sets now arms) roomy.asks set.asks → set.fixes ≡ roomy.fixes → ArmsOfFound newly_missing [] dist arms → WaitsAreChosen next_word roomy from arms to
    → AskAdds (Gained name ∷ []) set.asks held.asks → held.fixes ≡ set.fixes
    → FixEnds repaired now dist name held.fixes new.fixes → new.asks ≡ held.asks → TimersHear (IsDrawopOf repaired name) newly_missing dist now arms old new
drawop_hears next_word from to false name newly_missing dist now arms old roomy set held new roomy_asks stays keeps adds set_fixes first drawn gained held_fixes expiries new_asks =
    data_hears next_word from to name newly_missing dist now arms old roomy set held new roomy_asks stays keeps adds set_fixes first drawn gained held_fixes expiries new_asks
drawop_hears next_word from to true name newly_missing dist now arms old roomy set held new roomy_asks stays keeps adds set_fixes first drawn gained held_fixes expiries new_asks =
    repair_hears next_word from to name newly_missing dist now arms old roomy set held new roomy_asks stays keeps adds set_fixes first drawn gained held_fixes expiries new_asks
