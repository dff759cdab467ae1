-- What a tick does to the timers: it requests again, and repairs, what is due.
use Rattle.std.proofs.Common.{◌≡◌, ℕ, ◌<◌, Bool, true, false, not, ◌&&◌, ◌||◌, List, [], ◌∷◌, ◌++◌, refl, ap, sym, ◌∙◌, subst}
use Rattle.std.specs.Prelude.{nat_lt, if◌then◌else◌, Option, Some, None, is_some, option_map}
use Rattle.srm_names.specs.declared.limits.TheConstants.{MEMBERS}
use Rattle.srm_names.specs.FullName.{FullName}
use Rattle.srm_names.specs.Histories.{or_else, first_of}
use Rattle.srm_names.specs.Names.{same_name, name_below, ascending, among}
use Rattle.srm_names.proofs.Lists.{All-Has, all_by, find-Has, is_some_map}
use Rattle.srm_names.proofs.Same.{same_name-is}
use Rattle.srm_names.proofs.Snoc.{or_else-none}
use Rattle.srm_timers.specs.declared.arm.Arm.{Arm}
use Rattle.srm_timers.specs.declared.arm.Armed.{Armed}
use Rattle.srm_timers.specs.declared.arm.ArmKind.TheVariants.{Ask}
use Rattle.srm_timers.specs.Arms as timers
use Rattle.srm_timers.specs.Arms.{WaitBasis, wait_basis, arm_names, ran_out, next_exponent, IsAsk, AreAsks, AreOfMembers, AreChosen, arm_of}
use Rattle.srm_timers.specs.AskCalls.{AskStays, AskAdds, ArmsSetAgain, sets, again_basis, again_exponent}
use Rattle.srm_timers.specs.AskCalls as asks
use Rattle.srm_timers.specs.FixCalls.{FixStays, FixDue, FixRepairs, repair_calls, repair_holds_until}
use Rattle.srm_timers.specs.Timers.{armed_at}
use Rattle.srm_timers.specs.Distances.{distance_to}
use Rattle.srm_timers.proofs.AskSteps.{ask_timer-sets}
use Rattle.srm_timers.proofs.FixSteps.{asked_first-repairs, fix_timer-repairs, calls_hold_off-repairs}
use Rattle.srm_entries.specs.Configs.{Config}
use Rattle.srm_entries.specs.declared.entry.Entry.{Entry}
use Rattle.srm_entries.specs.Entries.{state, is_gone, is_held, is_missing}
use Rattle.srm_entries.specs.Distances.{distance}
use Rattle.srm_entries.specs.Timers.{asker, asker_in, repaired, repairs_in, ask_exponent, ask_basis_of, fix_basis_of, basis_of, last_ask, fix_running, held_off, TimersRight, ask_running, only_if}
use Rattle.srm_agent_state.specs.TimersKept.{TimersContent}
use Rattle.srm_agent_state.specs.TimerCalls.{TicksWith, TimersTick, AreToAsk, AreToFix, WaitsAreChosen}
use Rattle.srm_entries.proofs.Arming.{ask_at}
use Rattle.srm_entries.proofs.Quiet.{same_missing}
use Rattle.srm_entries.proofs.Setting.{is_ask, of_kind, ask_if, asks_of, fixes_of, is_armed, chosen_asks, chosen_waits}
use Rattle.srm_agent_state.proofs.Midway.{if_none, midway_fits}
use Rattle.srm_agent_state.proofs.Missing.{held_not_missing, settings_fit, holds_until}

-- the setting of a name that is due is one of a request
due_is_ask : (now distance : ℕ) (o : Option Armed) → (if ran_out now o then option_map (again_basis distance) o else None) ≡ ask_if (ran_out now o) (again_exponent o) distance
due_is_ask now distance None = refl
due_is_ask now distance (Some a) = refl

-- and the one that the law asks for
unasked_tick : (c : Config) (past : List Entry) (e : Entry) (n : FullName) → asker n e ≡ None → is_missing (past ++ e ∷ []) n ≡ is_missing past n
    → basis_of c past e n ≡ (if is_held past n then None else option_map (ask_at c (past ++ e ∷ []) n) (if is_missing past n then (if among e.effects.asks n then option_map next_exponent (last_ask past n) else None) else None))
unasked_tick c past e n none same = go (is_held past n)
  where
    fix : fix_basis_of c past e n ≡ None
    fix = if_none (is_held past n && not (is_some (fix_running past n)) && not (held_off c past n e.moment)) _ (rw none refl)

    exponent : (m : Bool) → is_missing past n ≡ m → ask_exponent past e n ≡ (if m then (if among e.effects.asks n then option_map next_exponent (last_ask past n) else None) else None)
    exponent true p = rw (p, none) refl
    exponent false p = rw (p, same, p) refl

    go : (h : Bool) → (if h then fix_basis_of c past e n else ask_basis_of c past e n)
        ≡ (if h then None else option_map (ask_at c (past ++ e ∷ []) n) (if is_missing past n then (if among e.effects.asks n then option_map next_exponent (last_ask past n) else None) else None))
    go true = fix
    go false = ap (option_map (ask_at c (past ++ e ∷ []) n)) (exponent (is_missing past n) refl)

again_by : (now : ℕ) (h m a : Bool) (last : Option Armed) (near : ℕ) (armed : ℕ → WaitBasis) → (h ≡ true → m ≡ false) → a ≡ (m && ran_out now last)
    → (is_some (if ran_out now (only_if m last) then option_map (again_basis near) (only_if m last) else None) ≡ true → (i : ℕ) → asks.ask_basis i near ≡ armed i)
    → (if ran_out now (only_if m last) then option_map (again_basis near) (only_if m last) else None) ≡ (if h then None else option_map armed (if m then (if a then option_map next_exponent last else None) else None))
again_by now true true a last near armed q e s = let k : true ≡ false = q refl in absurd (cc)
again_by now true false a last near armed q e s = refl
again_by now false false a last near armed q e s = refl
again_by now false true a None near armed q e s = rw e refl
again_by now false true a (Some x) near armed q e s = rw e (go (ran_out now (Some x)) s)
  where
    go : (b : Bool) → (is_some (if b then Some (again_basis near x) else None) ≡ true → (i : ℕ) → asks.ask_basis i near ≡ armed i)
        → (if b then Some (again_basis near x) else None) ≡ option_map armed (if b then Some (next_exponent x) else None)
    go true s = ap Some (s refl (next_exponent x))
    go false s = refl

-- a name with an arm is of a member
of_member : (arms : List Arm) (n : FullName) (o : Option Arm) → arm_of n arms ≡ o → AreOfMembers arms → is_some o ≡ true → n.stream.source < MEMBERS
of_member arms n None e all some = absurd (cc)
of_member arms n (Some a) e all some =
    subst (λ (m : FullName). m.stream.source < MEMBERS) (sym (same_name-is n a.name (find-Has (λ (x : Arm). same_name n x.name) arms a e).1))
    (All-Has (λ (x : Arm). x.name.stream.source < MEMBERS) a arms all.each (find-Has (λ (x : Arm). same_name n x.name) arms a e).0)

-- which names a tick asks for and repairs
pub ticks_right : (now : ℕ) (past : List Entry) (e : Entry) (arms : List Arm) (asked fixed : List FullName) → TicksWith asked fixed now arms e → is_gone (state past) ≡ false → AreToAsk now past asked → AreToFix now past fixed
    → TimersRight past e
ticks_right now past e arms asked fixed t active toask tofix = record {
  asks = record {
    in_order = ap (ascending name_below) t.asks ∙ toask.in_order;
    exact = λ n. ap (λ ns. among ns n) t.asks ∙ toask.exact n ∙ sym (rw (t.ticked, active, t.moment) refl);
  };
  fixes = record {
    in_order = ap (ascending name_below) t.fixes ∙ tofix.in_order;
    exact = λ n. ap (λ ns. among ns n) t.fixes ∙ tofix.exact n ∙ sym (rw (t.ticked, active, t.moment) refl);
  };
}

-- random numbers choose the waits of request timers
pub due_drawn : {W : Type 0} (next_word : W → ℕ × W) (t : TimersContent) (from to : W) (arms : List Arm) → AreAsks arms
    → AreChosen next_word (timers.low_of t.asks.c1) (timers.high_of t.asks.c1 t.asks.c2) from arms to → WaitsAreChosen next_word t from arms to
due_drawn next_word t from to arms all drawn = record { each = λ c s. chosen_asks next_word c t.asks.c1 t.asks.c2 from to arms s.c1 s.c2 (all_by IsAsk is_ask arms (λ a ask. ask.kind) all.each) drawn }

pub tick_ticks : {W : Type 0} (next_word : W → ℕ × W) (from to : W) (asked fixed names : List FullName) (dist : List ℕ) (now : ℕ) (arms : List Arm) (old mid new : TimersContent)
    → AskStays old.asks mid.asks → FixStays old.fixes mid.fixes → AskAdds (sets now arms) mid.asks new.asks → ArmsSetAgain now dist old.asks arms → AreOfMembers arms → WaitsAreChosen next_word old from arms to
    → FixRepairs now dist names mid.fixes new.fixes → FixDue now old.fixes names → TimersTick asked fixed dist now arms old new
tick_ticks next_word from to asked fixed names dist now arms old mid new ask_stays fix_stays adds again members drawn repaired_ due = record {
  each = λ c past e t h active toask tofix d.
      let kept = ask_stays.each c.c1 c.c2 h.ask_calls h.asks in
      let held = fix_stays.each c.d1 c.d2 h.fix_calls h.fixes in
      let are = again.each c.c1 c.c2 h.ask_calls h.asks in
      let fixed_are = due.each c.d1 c.d2 h.fix_calls h.fixes in
      let same : (n : FullName) → is_missing (past ++ e ∷ []) n ≡ is_missing past n = λ n. same_missing past e n (t.heard, t.drawn) in
      let none : (n : FullName) → asker n e ≡ None = λ n. ap (asker_in n) t.heard in
      let due_at : (n : FullName) → Option WaitBasis = λ n. if ran_out now (ask_running past n) then option_map (again_basis (distance_to dist n.stream.source)) (ask_running past n) else None in
      let exact : (n : FullName) → option_map wait_basis (arm_of n arms) ≡ due_at n
      = λ n. are.exact n ∙ ap (λ o. if ran_out now o then option_map (again_basis (distance_to dist n.stream.source)) o else None) (h.ask_timers n) in
      let as_ask : (n : FullName) → option_map wait_basis (arm_of n arms) ≡ ask_if (ran_out now (ask_running past n)) (again_exponent (ask_running past n)) (distance_to dist n.stream.source)
      = λ n. exact n ∙ due_is_ask now (distance_to dist n.stream.source) (ask_running past n) in
      let is_set : (n : FullName) → is_some (of_kind Ask (arm_of n arms)) ≡ ran_out now (ask_running past n)
      = λ n. ap is_some (asks_of (arm_of n arms) _ _ _ (as_ask n)) ∙ is_armed (arm_of n arms) _ _ _ (as_ask n) in
      let near : (n : FullName) → is_some (due_at n) ≡ true → (i : ℕ) → asks.ask_basis i (distance_to dist n.stream.source) ≡ ask_at c (past ++ e ∷ []) n i
      = λ n some i. ap (asks.ask_basis i) (d.each n.stream.source (of_member arms n (arm_of n arms) refl members (sym (is_some_map wait_basis (arm_of n arms)) ∙ ap is_some (exact n) ∙ some))) in
      let repaired_are : (n : FullName) → repaired n e ≡ among names n
      = λ n. ap (λ o. repairs_in n o || among e.effects.fixes n) t.heard ∙ ap (λ ns. among ns n) t.fixes ∙ tofix.exact n ∙ sym (fixed_are.exact n ∙ ap (ran_out now) (h.fix_timers n)) in (
        record {
          arms = record {
            are = record {
              in_order = ap (λ as_. ascending name_below (arm_names as_)) t.arms ∙ are.in_order;
              exact = λ n. ap (λ as_. option_map wait_basis (arm_of n as_)) t.arms ∙ exact n
                  ∙ again_by now (is_held past n) (is_missing past n) (among e.effects.asks n) (last_ask past n) (distance_to dist n.stream.source) (ask_at c (past ++ e ∷ []) n)
                  (held_not_missing past n) (ap (λ ns. among ns n) t.asks ∙ toask.exact n) (near n)
                  ∙ sym (unasked_tick c past e n (none n) (same n));
            };
            waits = rw t.arms (chosen_waits next_word c from to arms (drawn.each c (settings_fit c past old h)));
          };
          fits = midway_fits c past e now arms (λ n. false) (λ n. None) (among names) (repair_holds_until now dist h.fix_calls) new
              (record {
                moment = t.moment;
                arms_are = t.arms;
                rising = are.in_order;
                set_missing = λ n some. same n ∙ shown_missing now (is_missing past n) (last_ask past n) (sym (is_set n) ∙ some);
                gained_held = λ n k. absurd (cc);
                others_stay = λ n unset k. same n;
                asked_is = none;
                ended_is = repaired_are;
                ended_unset = λ n k. fixes_of (arm_of n arms) _ _ _ (as_ask n);
                until_is = λ n at. holds_until c past e now dist h.fix_calls n d (h.askers n) (repaired_.near c.d1 c.d2 h.fix_calls held n at);
              })
              (record {
                ask_calls = h.ask_calls ++ sets now arms;
                asks = adds.each c.c1 c.c2 h.ask_calls kept;
                ask_timers = λ n. ask_timer-sets h.ask_calls now arms n are.in_order
                    ∙ ap (or_else (option_map (armed_at now) (arm_of n arms))) (h.ask_timers n)
                    ∙ ap (λ o. or_else (option_map (armed_at now) o) (ask_running past n)) (sym (asks_of (arm_of n arms) _ _ _ (as_ask n)));
                fix_calls = h.fix_calls ++ repair_calls now dist h.fix_calls names;
                fixes = repaired_.each c.d1 c.d2 h.fix_calls held;
                fix_timers = λ n. fix_timer-repairs now dist h.fix_calls names n ∙ ap (λ o. if among names n then None else o) (h.fix_timers n)
                    ∙ ap (λ o. or_else (option_map (armed_at now) o) (if among names n then None else fix_running past n)) (sym (fixes_of (arm_of n arms) _ _ _ (as_ask n)));
                askers = λ n. asked_first-repairs now dist h.fix_calls names n ∙ h.askers n ∙ sym (or_else-none (first_of (asker n) past));
                hold_offs = λ n u. calls_hold_off-repairs now dist h.fix_calls names n u ∙ ap (λ b. b || among names n && nat_lt u (repair_holds_until now dist h.fix_calls n)) (h.hold_offs n u);
              });
        },
        ticks_right now past e arms asked fixed t active toask tofix,
      );
}
  where
    shown_missing : (now : ℕ) (b : Bool) (o : Option Armed) → ran_out now (only_if b o) ≡ true → b ≡ true
    shown_missing now true o e = refl
    shown_missing now false o e = absurd (cc)
