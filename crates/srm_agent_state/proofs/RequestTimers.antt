-- What a request does to the timers, as a whole.
use Rattle.std.proofs.Common.{◌≡◌, ℕ, ◌+◌, ◌<◌, ◌≤◌, Bool, true, false, not, ◌&&◌, ◌||◌, List, [], ◌∷◌, ◌++◌, length, length-append, refl, ap, sym, ◌∙◌, subst, arith}
use Rattle.std.specs.Prelude.{if◌then◌else◌, Option, Some, None, is_some, option_map, option_to_list}
use Rattle.std.specs.List.{AllByRecursion}
use Rattle.std.proofs.lemmas.List.{map-append, length-map, take_all}
use Rattle.srm_names.specs.declared.stream.Stream.{Stream}
use Rattle.srm_names.specs.FullName.{FullName}
use Rattle.srm_names.specs.Histories.{or_else}
use Rattle.srm_names.specs.Names.{name_below, ascending, among, named}
use Rattle.srm_names.proofs.Lists.{is_some_map}
use Rattle.srm_names.proofs.Same.{same_stream-is}
use Rattle.srm_names.proofs.Rising.{ascending_joined}
use Rattle.srm_codec.specs.declared.datagram.Datagram.{Datagram}
use Rattle.srm_codec.specs.Spelling.{is_name}
use Rattle.srm_store.specs.Stores.{StoreContent}
use Rattle.srm_timers.specs.declared.arm.Arm.{Arm}
use Rattle.srm_timers.specs.declared.arm.ArmKind.TheVariants.{Ask, Fix}
use Rattle.srm_timers.specs.Arms.{wait_basis, arm_names, arm_of}
use Rattle.srm_timers.specs.Timers.{armed_at}
use Rattle.srm_timers.specs.Distances.{distance_to}
use Rattle.srm_timers.specs.AskCalls.{AskAdds, ArmsOfFound, ask_timer, sets, first_exponent}
use Rattle.srm_timers.proofs.AskSteps.{ask_timer-sets}
use Rattle.srm_entries.specs.Configs.{Config}
use Rattle.srm_entries.specs.declared.entry.Entry.{Entry}
use Rattle.srm_entries.specs.Entries.{is_held, is_missing, known}
use Rattle.srm_entries.specs.Distances.{distance}
use Rattle.srm_entries.specs.Timers.{last_ask, fix_running, held_off, ask_running}
use Rattle.srm_agent_state.specs.TimersKept.{TimersContent, TimersFit}
use Rattle.srm_agent_state.specs.TimerCalls.{AreNewlyMissing, HearsWith, AreDistancesAfter, IsRequestOf, TimersAdd, TimersHearRequest, TimersStay, WaitsAreChosen}
use Rattle.srm_entries.proofs.Adding.{gains}
use Rattle.srm_entries.proofs.Setting.{of_kind, asks_of, fixes_of, is_armed, chosen_waits}
use Rattle.srm_agent_state.proofs.Midway.{if_none, midway_fits, armed_as}
use Rattle.srm_agent_state.proofs.Missing.{no_name, others_then, fresh_then, fresh_above, fresh_shown, fresh_near, stays_missing, settings_fit}
use Rattle.srm_agent_state.proofs.RisingNames.{among_all, names_no_more}
use Rattle.srm_agent_state.proofs.AskedNames.{below_in_stream}
use Rattle.srm_agent_state.proofs.JoinedArms.{arm_of-append, arm_named, joined, setting_or}
use Rattle.srm_agent_state.proofs.OneAnswered.{wanted, asked_if, AnsweredIn, AnsweredSoFar}
use Rattle.srm_agent_state.proofs.RequestSays.{asker_is, request_gains, request_repairs, RequestSays, request_says, same_distance}
use Rattle.srm_agent_state.proofs.RequestSettings.{request_setting, wanted_known, fresh_unwanted, ask_wanted, no_setting_no_arm}

-- as many arms as names, at most
pub found_fits : (newly_missing asked : List FullName) (dist : List ℕ) (found : List Arm) → ascending name_below newly_missing ≡ true → ArmsOfFound newly_missing asked dist found → length found ≤ length newly_missing
found_fits newly_missing asked dist found rising first =
    let k : length (arm_names found) ≤ length newly_missing = names_no_more newly_missing (arm_names found) rising first.are.in_order
    (λ n at. sym (is_armed (arm_of n found) (among newly_missing n) (first_exponent asked n) (distance_to dist n.stream.source) (first.are.exact n)) ∙ arm_named n found ∙ at) in
    omega (arith, k, length-map found (λ (a : Arm). a.name))

request_adds : {W : Type 0} (next_word : W → ℕ × W) (start to : W) (c : Config) (past : List Entry) (e : Entry) (g : Datagram) (from : ℕ) (asked newly_missing : List FullName) (dist : List ℕ) (now : ℕ) (answers found arms : List Arm) (old mid new : TimersContent)
    → TimersFit c past old → HearsWith g now arms e → IsRequestOf from asked g → RequestSays from asked g → AreNewlyMissing past e newly_missing → AreDistancesAfter c (past ++ e ∷ []) dist
    → AnsweredIn c past from dist now asked answers mid → AskAdds (sets now found) mid.asks new.asks → new.fixes ≡ mid.fixes → ArmsOfFound newly_missing asked dist found
    → WaitsAreChosen next_word old start arms to → arms ≡ answers ++ found → TimersAdd c past e new
request_adds next_word start to c past e g from asked newly_missing dist now answers found arms old mid new h with_ is says are d a adds same first drawn arms_are = record {
  arms = record {
    are = record {
      in_order = ap (λ as_. ascending name_below (arm_names as_)) (with_.arms ∙ arms_are) ∙ rising;
      exact = λ n. ap (λ as_. option_map wait_basis (arm_of n as_)) (with_.arms ∙ arms_are)
          ∙ ap (option_map wait_basis) (arm_of-append n answers found) ∙ setting_or (arm_of n answers) (arm_of n found)
          ∙ ap (λ o. or_else o (option_map wait_basis (arm_of n found))) (a.exact n) ∙ ap (or_else (if among asked n then wanted c past from dist now n else None)) (first.are.exact n)
          ∙ request_setting c past e from asked newly_missing dist now n (asker_is e g from asked n with_.heard is) with_.asks with_.moment (are.exact n)
          (d.each from says.member ∙ same_distance c past e g from with_.heard (says.far c.me e.moment)) (near n);
    };
    waits = rw with_.arms (chosen_waits next_word c start to arms (drawn.each c (settings_fit c past old h)));
  };
  fits = midway_fits c past e now (answers ++ found) no_name (asked_if asked from) no_name (λ n. 0) new
      (record {
        moment = with_.moment;
        arms_are = with_.arms ∙ arms_are;
        rising = rising;
        set_missing = λ n some. now_missing n (arm_of n answers) refl (arm_of n found) refl (ap (λ o. is_some (of_kind Ask o)) (sym (arm_of-append n answers found)) ∙ some);
        gained_held = λ n k. absurd (cc);
        others_stay = λ n unset k. others_then past e n (sym (are.exact n) ∙ unfresh n (among newly_missing n) refl unset) (gain n);
        asked_is = λ n. asker_is e g from asked n with_.heard is;
        ended_is = λ n. request_repairs e g from asked n with_.heard with_.fixes is;
        ended_unset = λ n k. absurd (cc);
        until_is = λ n k. absurd (cc);
      })
      (record {
        ask_calls = a.mid.ask_calls ++ sets now found;
        asks = adds.each c.c1 c.c2 a.mid.ask_calls a.mid.asks;
        ask_timers = λ n. ask_timer-sets a.mid.ask_calls now found n first.are.in_order
            ∙ ap (λ o. or_else (option_map (armed_at now) o) (ask_timer a.mid.ask_calls n)) (sym (asks_of (arm_of n found) _ _ _ (first.are.exact n)))
            ∙ ap (or_else (option_map (armed_at now) (of_kind Ask (arm_of n found)))) (a.mid.ask_timers n)
            ∙ joined now Ask (arm_of n answers) (arm_of n found) (ask_running past n) (apart n)
            ∙ ap (λ o. or_else (option_map (armed_at now) (of_kind Ask o)) (ask_running past n)) (sym (arm_of-append n answers found));
        fix_calls = a.mid.fix_calls;
        fixes = rw same a.mid.fixes;
        fix_timers = λ n. a.mid.fix_timers n
            ∙ ap (λ o. or_else (option_map (armed_at now) o) (or_else (armed_as Fix now answers n) (fix_running past n))) (sym (fixes_of (arm_of n found) _ _ _ (first.are.exact n)))
            ∙ joined now Fix (arm_of n answers) (arm_of n found) (fix_running past n) (apart n)
            ∙ ap (λ o. or_else (option_map (armed_at now) (of_kind Fix o)) (fix_running past n)) (sym (arm_of-append n answers found));
        askers = a.mid.askers;
        hold_offs = a.mid.hold_offs;
      });
}
  where
    gain : (n : FullName) → gains e n ≡ false
    gain n = request_gains e g from asked n with_.heard with_.drawn is

    found_is : (n : FullName) → is_some (arm_of n found) ≡ among newly_missing n
    found_is n = is_armed (arm_of n found) _ _ _ (first.are.exact n)

    fresh_is : (n : FullName) → among newly_missing n ≡ true → (is_missing past n ≡ false) × (is_missing (past ++ e ∷ []) n ≡ true)
    fresh_is n k = fresh_then past e n (sym (are.exact n) ∙ k)

    apart : (n : FullName) → is_some (arm_of n found) ≡ true → arm_of n answers ≡ None
    apart n there =
        let k = fresh_is n (sym (found_is n) ∙ there) in
        no_setting_no_arm (arm_of n answers) (a.exact n ∙ if_none (among asked n) (wanted c past from dist now n) (fresh_unwanted c past e from dist now n k.0 k.1))

    near : (n : FullName) → (among asked n || among newly_missing n) ≡ true → distance_to dist n.stream.source ≡ distance c (past ++ e ∷ []) n.stream.source
    near n k = go (among asked n) refl k
      where
        go : (q : Bool) → among asked n ≡ q → (q || among newly_missing n) ≡ true → distance_to dist n.stream.source ≡ distance c (past ++ e ∷ []) n.stream.source
        go true t k = let name = among_all is_name asked n says.spelled t in d.each n.stream.source name.0
        go false t k = fresh_near c past e g now arms newly_missing dist n with_ are d k

    stream_of : (n : FullName) → among newly_missing n ≡ true → n.stream ≡ says.stream
    stream_of n k =
        let m = fresh_is n k in
        let (x, of_it, alike) = fresh_shown past e g n with_.heard with_.drawn m.0 m.1 (λ (y : FullName). y.stream ≡ says.stream) (subst (AllByRecursion (λ (y : FullName). y.stream ≡ says.stream)) (sym says.names_are) says.in_stream) in
        same_stream-is n.stream x.stream alike ∙ of_it

    answered_known : (n : FullName) → among (arm_names answers) n ≡ true → n.number ≤ known past n.stream
    answered_known n k = wanted_known c past from dist now n (go (among asked n) refl)
      where
        some : (q : Bool) → among asked n ≡ q → is_some (if q then wanted c past from dist now n else None) ≡ true
        some q t = ap (λ (b : Bool). is_some (if b then wanted c past from dist now n else None)) (sym t) ∙ sym (ap is_some (a.exact n)) ∙ is_some_map wait_basis (arm_of n answers) ∙ arm_named n answers ∙ k

        go : (q : Bool) → among asked n ≡ q → is_some (wanted c past from dist now n) ≡ true
        go true t = some true t
        go false t = let wrong : false ≡ true = some false t in absurd (cc)

    rising : ascending name_below (arm_names (answers ++ found)) ≡ true
    rising = ap (ascending name_below) (map-append (λ (x : Arm). x.name) answers found)
        ∙ ascending_joined (arm_names answers) (arm_names found) a.rising first.are.in_order (λ x y i j. in_front x y i (sym (found_is y) ∙ arm_named y found ∙ j))
      where
        in_front : (x y : FullName) → among (arm_names answers) x ≡ true → among newly_missing y ≡ true → name_below x y ≡ true
        in_front x y i j =
            let m = fresh_is y j in
            let x_in : x.stream ≡ says.stream = among_all (λ (n : FullName). n.stream ≡ says.stream) asked x says.in_stream (a.inside x i) in
            let y_in : y.stream ≡ says.stream = stream_of y j in
            let low : x.number ≤ known past says.stream = subst (λ (t : Stream). x.number ≤ known past t) x_in (answered_known x i) in
            let high : known past says.stream < y.number = subst (λ (t : Stream). known past t < y.number) y_in (fresh_above past e y m.0 m.1) in
            let lt : name_below (named says.stream x.number) (named says.stream y.number) ≡ true = below_in_stream says.stream x.number y.number (omega (arith, low, high)) in
            subst (λ (t : Stream). name_below (named t x.number) y ≡ true) (sym x_in) (subst (λ (t : Stream). name_below (named says.stream x.number) (named t y.number) ≡ true) (sym y_in) lt)

    now_missing : (n : FullName) (x : Option Arm) → arm_of n answers ≡ x → (y : Option Arm) → arm_of n found ≡ y → is_some (of_kind Ask (or_else x y)) ≡ true → is_missing (past ++ e ∷ []) n ≡ true
    now_missing n None p None q some = absurd (cc)
    now_missing n None p (Some y) q some = (fresh_is n (sym (found_is n) ∙ ap is_some q)).1
    now_missing n (Some x) p y q some = stays_missing past e n (gain n) (go (among asked n) refl)
      where
        go : (t : Bool) → among asked n ≡ t → is_missing past n ≡ true
        go true t = ask_wanted (is_held past n) (is_missing past n) (not (is_some (fix_running past n)) && not (held_off c past n now)) (distance_to dist from) (distance_to dist n.stream.source) now (last_ask past n) (Some x)
            (ap (option_map wait_basis) (sym p) ∙ a.exact n ∙ ap (λ (b : Bool). if b then wanted c past from dist now n else None) t) some
        go false t =
            let wrong : Some (wait_basis x) ≡ None = ap (option_map wait_basis) (sym p) ∙ a.exact n ∙ ap (λ (b : Bool). if b then wanted c past from dist now n else None) t in
            absurd (cc)

    unfresh : (n : FullName) (b : Bool) → among newly_missing n ≡ b → is_some (of_kind Ask (arm_of n (answers ++ found))) ≡ false → among newly_missing n ≡ false
    unfresh n false k unset = k
    unfresh n true k unset =
        let there : is_some (arm_of n found) ≡ true = found_is n ∙ k in
        let all : is_some (of_kind Ask (arm_of n (answers ++ found))) ≡ true
        = ap (λ o. is_some (of_kind Ask o)) (arm_of-append n answers found ∙ ap (λ o. or_else o (arm_of n found)) (apart n there)) ∙ ap is_some (asks_of (arm_of n found) _ _ _ (first.are.exact n)) ∙ there in
        let wrong : true ≡ false = sym all ∙ unset in
        absurd (cc)

pub request_hears : {W : Type 0} (next_word : W → ℕ × W) (start to : W) (s : StoreContent) (from : ℕ) (asked newly_missing : List FullName) (dist : List ℕ) (now : ℕ) (i : ℕ) (answers found arms : List Arm) (old begun mid new : TimersContent)
    → TimersStay old begun → AnsweredSoFar s from dist now asked i answers begun mid → length asked ≤ i → AskAdds (sets now found) mid.asks new.asks → new.fixes ≡ mid.fixes
    → ArmsOfFound newly_missing asked dist found → WaitsAreChosen next_word old start arms to → arms ≡ answers ++ found → TimersHearRequest s from asked newly_missing dist now arms old new
request_hears next_word start to s from asked newly_missing dist now i answers found arms old begun mid new stays so_far all adds same first drawn arms_are = record {
  each = λ c past e g is with_ h f are d.
      let says = request_says from asked g is with_.read in
      let a = subst (λ ns. AnsweredIn c past from dist now ns answers mid) (take_all i asked all) (so_far.each c past (stays.each c past h) f says.rising) in
      request_adds next_word start to c past e g from asked newly_missing dist now answers found arms old mid new h with_ is says are d a adds same first drawn arms_are;
}

pub one_more_at_most : (xs ys : List Arm) (o : Option Arm) → ys ≡ xs ++ option_to_list o → length ys ≤ length xs + 1
one_more_at_most xs ys None e = let l = ap length e ∙ length-append xs [] in omega (arith, l)
one_more_at_most xs ys (Some a) e = let l = ap length e ∙ length-append xs (a ∷ []) in omega (arith, l)
