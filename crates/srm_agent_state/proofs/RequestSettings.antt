-- Which timers a request sets.
use Rattle.std.proofs.Common.{◌≡◌, ℕ, ◌≤◌, Bool, true, false, not, ◌&&◌, ◌||◌, List, [], ◌∷◌, ◌++◌, refl, ap, sym, ◌∙◌, subst, arith}
use Rattle.std.specs.Prelude.{nat_le, if◌then◌else◌, Option, Some, None, is_some, option_map}
use Rattle.std.proofs.lemmas.Bool.{and_right}
use Rattle.std.proofs.lemmas.Bool.Decides.{nat_tests}
use Rattle.srm_names.specs.FullName.{FullName}
use Rattle.srm_names.specs.Histories.{or_else}
use Rattle.srm_names.specs.Names.{among}
use Rattle.srm_names.proofs.Same.{same_name-is}
use Rattle.srm_names.proofs.Lists.{any_Has, is_some_if}
use Rattle.srm_names.proofs.Snoc.{or_else-none}
use Rattle.srm_store.specs.Held as stores
use Rattle.srm_timers.specs.declared.arm.Arm.{Arm}
use Rattle.srm_timers.specs.declared.arm.Armed.{Armed}
use Rattle.srm_timers.specs.declared.arm.ArmKind.{ArmKind}
use Rattle.srm_timers.specs.declared.arm.ArmKind.TheVariants.{Ask, Fix}
use Rattle.srm_timers.specs.Arms.{WaitBasis, same_kind, next_exponent, wait_basis, backs_off}
use Rattle.srm_timers.specs.Distances.{distance_to}
use Rattle.srm_timers.specs.AskCalls.{found_basis}
use Rattle.srm_timers.specs.AskCalls as asks
use Rattle.srm_timers.specs.FixCalls as fixes
use Rattle.srm_entries.specs.Configs.{Config}
use Rattle.srm_entries.specs.declared.entry.Entry.{Entry}
use Rattle.srm_entries.specs.Entries.{held, is_held, is_missing, known}
use Rattle.srm_entries.specs.Distances.{distance}
use Rattle.srm_entries.specs.Timers.{asker, ask_exponent, ask_basis_of, fix_basis_of, basis_of, last_ask, fix_running, held_off, ask_running, only_if}
use Rattle.srm_entries.proofs.Showing.{known_has, held_is_shown}
use Rattle.srm_entries.proofs.Arming.{ask_at, fix_at}
use Rattle.srm_entries.proofs.Setting.{of_kind}
use Rattle.srm_agent_state.proofs.Missing.{held_then}
use Rattle.srm_agent_state.proofs.OneAnswered.{wanted, asked_if}

-- the setting that the law asks for

fix_case : (q fr free : Bool) (d from : ℕ) (far : ℕ → ℕ) (x : WaitBasis) → fr ≡ false → d ≡ far from
    → or_else (if q then (if free then Some (fixes.fix_basis d) else None) else None) (if fr then Some x else None)
    ≡ (if free then option_map (λ a. record { kind = Fix; exponent = 0; distance = far a }) (if q then Some from else None) else None)
fix_case q true free d from far x e f = absurd (cc)
fix_case true false true d from far x e f = ap (λ k. Some (fixes.fix_basis k)) f
fix_case true false false d from far x e f = refl
fix_case false false true d from far x e f = refl
fix_case false false false d from far x e f = refl

ask_case : (q fr m m' : Bool) (d now : ℕ) (armed : ℕ → WaitBasis) (last : Option Armed) → fr ≡ (not m && m') → ((q || fr) ≡ true → (i : ℕ) → asks.ask_basis i d ≡ armed i)
    → or_else (if q then option_map (λ i. asks.ask_basis i d) (backs_off now (only_if m last)) else None) (if fr then Some (asks.ask_basis (if q then 1 else 0) d) else None)
    ≡ option_map armed (if m then (if q then backs_off now last else None) else if m' then Some (if q then 1 else 0) else None)
ask_case true true true m' d now armed last e s = absurd (cc)
ask_case false true true m' d now armed last e s = absurd (cc)
ask_case true false true m' d now armed last e s = or_else-none _ ∙ go (backs_off now last)
  where
    go : (o : Option ℕ) → option_map (λ i. asks.ask_basis i d) o ≡ option_map armed o
    go None = refl
    go (Some i) = ap Some (s refl i)
ask_case false false true m' d now armed last e s = refl
ask_case true true false true d now armed last e s = ap Some (s refl 1)
ask_case false true false true d now armed last e s = ap Some (s refl 0)
ask_case q true false false d now armed last e s = absurd (cc)
ask_case q false false true d now armed last e s = absurd (cc)
ask_case true false false false d now armed last e s = refl
ask_case false false false false d now armed last e s = refl

pub request_setting : (c : Config) (past : List Entry) (e : Entry) (from : ℕ) (asked newly_missing : List FullName) (dist : List ℕ) (now : ℕ) (n : FullName)
    → asker n e ≡ asked_if asked from n → e.effects.asks ≡ [] → e.moment ≡ now → among newly_missing n ≡ (not (is_missing past n) && is_missing (past ++ e ∷ []) n)
    → distance_to dist from ≡ distance c past from → ((among asked n || among newly_missing n) ≡ true → distance_to dist n.stream.source ≡ distance c (past ++ e ∷ []) n.stream.source)
    → or_else (if among asked n then wanted c past from dist now n else None) (found_basis newly_missing asked dist n) ≡ basis_of c past e n
request_setting c past e from asked newly_missing dist now n ask_is nothing at f near_from near = go (is_held past n) refl
  where
    free : ℕ → Bool
    free k = not (is_some (fix_running past n)) && not (held_off c past n k)

    found : Option WaitBasis
    found = if among newly_missing n then Some (asks.ask_basis (if among asked n then 1 else 0) (distance_to dist n.stream.source)) else None

    to_fix : Option WaitBasis
    to_fix = if free now then Some (fixes.fix_basis (distance_to dist from)) else None

    to_ask : Option WaitBasis
    to_ask = option_map (λ i. asks.ask_basis i (distance_to dist n.stream.source)) (backs_off now (ask_running past n))

    unfresh : is_held past n ≡ true → among newly_missing n ≡ false
    unfresh h = f ∙ ap (λ m'. not (is_missing past n) && m') (held_then past e n h) ∙ and_right (not (is_missing past n)) false refl

    fix_is : is_held past n ≡ true → fix_basis_of c past e n ≡ (if free now then option_map (fix_at c past) (asked_if asked from n) else None)
    fix_is h =
        ap (λ b. if b && not (is_some (fix_running past n)) && not (held_off c past n e.moment) then option_map (fix_at c past) (asker n e) else None) h
        ∙ ap (λ k. if free k then option_map (fix_at c past) (asker n e) else None) at
        ∙ ap (λ o. if free now then option_map (fix_at c past) o else None) ask_is

    exponent_is : ask_exponent past e n ≡ (if is_missing past n then (if among asked n then backs_off now (last_ask past n) else None) else if is_missing (past ++ e ∷ []) n then Some (if among asked n then 1 else 0) else None)
    exponent_is =
        ap (λ o. if is_missing past n then (if is_some o then backs_off e.moment (last_ask past n) else if among e.effects.asks n then option_map next_exponent (last_ask past n) else None)
        else if is_missing (past ++ e ∷ []) n then Some (if is_some o then 1 else 0) else None) ask_is
        ∙ ap (λ b. if is_missing past n then (if b then backs_off e.moment (last_ask past n) else if among e.effects.asks n then option_map next_exponent (last_ask past n) else None)
        else if is_missing (past ++ e ∷ []) n then Some (if b then 1 else 0) else None) (is_some_if (among asked n) from)
        ∙ ap (λ k. if is_missing past n then (if among asked n then backs_off k (last_ask past n) else if among e.effects.asks n then option_map next_exponent (last_ask past n) else None)
        else if is_missing (past ++ e ∷ []) n then Some (if among asked n then 1 else 0) else None) at
        ∙ ap (λ ns. if is_missing past n then (if among asked n then backs_off now (last_ask past n) else if among ns n then option_map next_exponent (last_ask past n) else None)
        else if is_missing (past ++ e ∷ []) n then Some (if among asked n then 1 else 0) else None) nothing

    go : (b : Bool) → is_held past n ≡ b → or_else (if among asked n then (if is_held past n then to_fix else to_ask) else None) found ≡ (if is_held past n then fix_basis_of c past e n else ask_basis_of c past e n)
    go true h =
        ap (λ (b : Bool). or_else (if among asked n then (if b then to_fix else to_ask) else None) found) h
        ∙ fix_case (among asked n) (among newly_missing n) (free now) (distance_to dist from) from (λ a. distance c past a) (asks.ask_basis (if among asked n then 1 else 0) (distance_to dist n.stream.source)) (unfresh h) near_from
        ∙ sym (fix_is h)
        ∙ sym (ap (λ (b : Bool). if b then fix_basis_of c past e n else ask_basis_of c past e n) h)
    go false h =
        ap (λ (b : Bool). or_else (if among asked n then (if b then to_fix else to_ask) else None) found) h
        ∙ ask_case (among asked n) (among newly_missing n) (is_missing past n) (is_missing (past ++ e ∷ []) n) (distance_to dist n.stream.source) now (ask_at c (past ++ e ∷ []) n) (last_ask past n) f (λ k i. ap (asks.ask_basis i) (near k))
        ∙ sym (ap (option_map (ask_at c (past ++ e ∷ []) n)) exponent_is)
        ∙ sym (ap (λ (b : Bool). if b then fix_basis_of c past e n else ask_basis_of c past e n) h)

-- what is held or missing is known

pub held_known : (past : List Entry) (n : FullName) → is_held past n ≡ true → n.number ≤ known past n.stream
held_known past n h =
    let (d, there, named_so) = any_Has (stores.has_name n) (held past) h in
    subst (λ m. m.number ≤ known past m.stream) (same_name-is d.name n named_so) (known_has past d.name (held_is_shown past d there))

missing_known : (past : List Entry) (n : FullName) → is_missing past n ≡ true → n.number ≤ known past n.stream
missing_known past n m = go n.number (known past n.stream) (is_held past n) m
  where
    go : (a b : ℕ) (h : Bool) → (nat_le 1 a && nat_le a b && not h) ≡ true → a ≤ b
    go a b h e = grind (arith, nat_tests)

pub wanted_known : (c : Config) (past : List Entry) (from : ℕ) (dist : List ℕ) (now : ℕ) (n : FullName) → is_some (wanted c past from dist now n) ≡ true → n.number ≤ known past n.stream
wanted_known c past from dist now n some = go (is_held past n) refl (is_missing past n) refl
  where
    off : is_held past n ≡ false → is_missing past n ≡ false → is_some (wanted c past from dist now n) ≡ false
    off h m =
        ap (λ (b : Bool). is_some (if b then (if not (is_some (fix_running past n)) && not (held_off c past n now) then Some (fixes.fix_basis (distance_to dist from)) else None)
        else option_map (λ i. asks.ask_basis i (distance_to dist n.stream.source)) (backs_off now (ask_running past n)))) h
        ∙ ap (λ b. is_some (option_map (λ i. asks.ask_basis i (distance_to dist n.stream.source)) (backs_off now (only_if b (last_ask past n))))) m

    go : (h : Bool) → is_held past n ≡ h → (m : Bool) → is_missing past n ≡ m → n.number ≤ known past n.stream
    go true h m k = held_known past n h
    go false h true m = missing_known past n m
    go false h false m = let wrong : true ≡ false = sym some ∙ off h m in absurd (cc)

-- a request wants no arm for a name that only becomes missing by it
pub fresh_unwanted : (c : Config) (past : List Entry) (e : Entry) (from : ℕ) (dist : List ℕ) (now : ℕ) (n : FullName) → is_missing past n ≡ false → is_missing (past ++ e ∷ []) n ≡ true → wanted c past from dist now n ≡ None
fresh_unwanted c past e from dist now n m m' =
    ap (λ (b : Bool). if b then (if not (is_some (fix_running past n)) && not (held_off c past n now) then Some (fixes.fix_basis (distance_to dist from)) else None)
    else option_map (λ i. asks.ask_basis i (distance_to dist n.stream.source)) (backs_off now (ask_running past n))) (unheld (is_held past n) refl)
    ∙ ap (λ b. option_map (λ i. asks.ask_basis i (distance_to dist n.stream.source)) (backs_off now (only_if b (last_ask past n)))) m
  where
    unheld : (b : Bool) → is_held past n ≡ b → b ≡ false
    unheld true h = sym m' ∙ held_then past e n h
    unheld false h = refl

-- a wanted arm of a request timer is of a missing name
pub ask_wanted : (h m free : Bool) (d d' now : ℕ) (last : Option Armed) (o : Option Arm)
    → option_map wait_basis o ≡ (if h then (if free then Some (fixes.fix_basis d) else None) else option_map (λ i. asks.ask_basis i d') (backs_off now (only_if m last))) → is_some (of_kind Ask o) ≡ true → m ≡ true
ask_wanted h true free d d' now last o e some = refl
ask_wanted h false free d d' now last None e some = absurd (cc)
ask_wanted true false true d d' now last (Some a) e some =
    let s : wait_basis a ≡ fixes.fix_basis d = cc in
    let wrong : true ≡ false = sym some ∙ ap (λ (k : ArmKind). is_some (if same_kind Ask k then Some a else None)) (ap (λ (x : WaitBasis). x.kind) s) in
    absurd (cc)
ask_wanted true false false d d' now last (Some a) e some = absurd (cc)
ask_wanted false false free d d' now last (Some a) e some = absurd (cc)

pub no_setting_no_arm : (o : Option Arm) → option_map wait_basis o ≡ None → o ≡ None
no_setting_no_arm None e = refl
no_setting_no_arm (Some a) e = absurd (cc)
