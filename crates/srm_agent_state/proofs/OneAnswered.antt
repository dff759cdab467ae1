-- One name that a request asks for: the timer that it sets, and all timers after it.
use Rattle.std.proofs.Common.{◌≡◌, ℕ, ◌+◌, ◌<◌, Bool, true, false, not, ◌&&◌, ◌||◌, List, [], ◌∷◌, ◌++◌, take, length, get_or, refl, ap, sym, ◌∙◌, subst, cond, append_assoc}
use Rattle.std.specs.Prelude.{if◌then◌else◌, Option, Some, None, is_some, option_map, option_to_list, IfSome}
use Rattle.std.proofs.Math.Bool.{or-false}
use Rattle.std.proofs.lemmas.List.{append-nil, map-append, take_more}
use Rattle.std.proofs.lemmas.List.Folds.{list_any-append}
use Rattle.srm_names.specs.declared.drawop.Drawop.{Drawop}
use Rattle.srm_names.specs.FullName.{FullName}
use Rattle.srm_names.specs.Histories.{or_else, first_of}
use Rattle.srm_names.specs.Names.{same_name, name_below, ascending, among}
use Rattle.srm_names.proofs.Lists.{is_none}
use Rattle.srm_names.proofs.Same.{same_name-is, same_name-itself}
use Rattle.srm_names.proofs.Snoc.{or_else-none}
use Rattle.srm_names.proofs.Rising.{ascending_joined, ascending_take}
use Rattle.srm_store.specs.Held as stores
use Rattle.srm_store.specs.Finals.{Settling}
use Rattle.srm_store.specs.Fits.{StoreFits}
use Rattle.srm_store.specs.Stores.{StoreContent}
use Rattle.srm_timers.specs.declared.arm.Arm.{Arm}
use Rattle.srm_timers.specs.declared.arm.ArmKind.{ArmKind}
use Rattle.srm_timers.specs.declared.arm.ArmKind.TheVariants.{Ask, Fix}
use Rattle.srm_timers.specs.Arms.{WaitBasis, Plan, same_kind, wait_basis, plan_of, arm_names, backs_off, arm_of}
use Rattle.srm_timers.specs.Timers.{armed_at}
use Rattle.srm_timers.specs.Distances.{distance_to}
use Rattle.srm_timers.specs.AskCalls.{AskCall, AskContent, AskFits, AskAdds, ask_timer, sets, ask_plan}
use Rattle.srm_timers.specs.AskCalls as asks
use Rattle.srm_timers.specs.FixCalls.{FixCall, Asked, FixAdds, fix_timer, asked_first, calls_hold_off, is_free, sets_fix}
use Rattle.srm_timers.specs.FixCalls as fixes
use Rattle.srm_timers.proofs.AskSteps.{ask_timer-sets}
use Rattle.srm_timers.proofs.FixSteps.{asked_first-snoc, asked_first-append, no_asker-sets, fix_timer-asked, fix_timer-sets, calls_hold_off-asked, calls_hold_off-append, none_off-sets}
use Rattle.srm_entries.specs.Configs.{Config}
use Rattle.srm_entries.specs.declared.entry.Entry.{Entry}
use Rattle.srm_entries.specs.Entries.{held, evidence_in, is_held}
use Rattle.srm_entries.specs.Timers.{asker, fix_running, held_off, ask_running}
use Rattle.srm_entries.specs.Verdicts.{settlings}
use Rattle.srm_agent_state.specs.TimersKept.{TimersContent, TimersFit}
use Rattle.srm_agent_state.specs.TimerCalls.{IsRequestHeard}
use Rattle.srm_entries.proofs.Plain.{neither}
use Rattle.srm_entries.proofs.Setting.{of_kind}
use Rattle.srm_agent_state.proofs.Midway.{Midway}
use Rattle.srm_agent_state.proofs.Missing.{no_name}
use Rattle.srm_agent_state.proofs.RisingNames.{front_below, last_is_new}
use Rattle.srm_agent_state.proofs.JoinedArms.{arm_of-append, arm_named, joined}

-- The arm that a request makes for a name that it asks for, after the entries before.
abbrev pub wanted : Config → List Entry → ℕ → List ℕ → ℕ → FullName → Option WaitBasis
wanted c past from dist now n =
    if is_held past n
    then (if not (is_some (fix_running past n)) && not (held_off c past n now) then Some (fixes.fix_basis (distance_to dist from)) else None)
    else option_map (λ i. asks.ask_basis i (distance_to dist n.stream.source)) (backs_off now (ask_running past n))

abbrev pub asked_if : List FullName → ℕ → FullName → Option ℕ
asked_if done from n = if among done n then Some from else None

-- the middle of a request: these names were answered
pub record AnsweredIn (c : Config) (past : List Entry) (from : ℕ) (dist : List ℕ) (now : ℕ) (done : List FullName) (arms : List Arm) (t : TimersContent) : Type 0 where
  pub mid : Midway c past now arms no_name (asked_if done from) no_name (λ n. 0) t
  pub rising : ascending name_below (arm_names arms) ≡ true
  pub inside : (n : FullName) → among (arm_names arms) n ≡ true → among done n ≡ true
  pub exact : (n : FullName) → option_map wait_basis (arm_of n arms) ≡ (if among done n then wanted c past from dist now n else None)

pub record AnsweredSoFar (s : StoreContent) (from : ℕ) (dist : List ℕ) (now : ℕ) (asked : List FullName) (i : ℕ) (arms : List Arm) (old t : TimersContent) : Type 0 where
  pub each : (c : Config) (past : List Entry) → TimersFit c past old → StoreFits (held past) (evidence_in past) (settlings past) s → ascending name_below asked ≡ true
      → AnsweredIn c past from dist now (take i asked) arms t

-- one name

abbrev plan_at : FullName → WaitBasis → Plan
plan_at name s = record { name = name; wait_basis = s }

plan_setting : (name : FullName) (arm : Option Arm) (w : Option WaitBasis) → option_map plan_of arm ≡ option_map (plan_at name) w → option_map wait_basis arm ≡ w
plan_setting name None None e = refl
plan_setting name None (Some w) e = absurd (cc)
plan_setting name (Some a) None e = absurd (cc)
plan_setting name (Some a) (Some w) e = let same : plan_of a ≡ plan_at name w = cc in ap (λ (p : Plan). Some p.wait_basis) same

plan_name : (name : FullName) (a : Arm) (w : Option WaitBasis) → Some (plan_of a) ≡ option_map (plan_at name) w → a.name ≡ name
plan_name name a None e = absurd (cc)
plan_name name a (Some w) e = let same : plan_of a ≡ plan_at name w = cc in ap (λ (p : Plan). p.name) same

arm_one : (n name : FullName) (arm : Option Arm) (w : Option WaitBasis) → option_map plan_of arm ≡ option_map (plan_at name) w → arm_of n (option_to_list arm) ≡ (if same_name n name then arm else None)
arm_one n name None w e = neither (same_name n name)
arm_one n name (Some a) w e = ap (λ m. cond (same_name n m) (Some a) None) (plan_name name a w e)

option_plans : (name : FullName) (d : ℕ) (o : Option ℕ) → option_map (ask_plan name d) o ≡ option_map (plan_at name) (option_map (λ i. asks.ask_basis i d) o)
option_plans name d None = refl
option_plans name d (Some i) = refl

fix_plans : (name : FullName) (d : ℕ) (b : Bool) → (if true && b then Some (fixes.fix_plan name d) else None) ≡ option_map (plan_at name) (if b then Some (fixes.fix_basis d) else None)
fix_plans name d true = refl
fix_plans name d false = refl

one_rises : (arm : Option Arm) → ascending name_below (arm_names (option_to_list arm)) ≡ true
one_rises None = refl
one_rises (Some a) = refl

-- the timers of one kind, with the arm of one name

kind_there : (k : ArmKind) (arm : Option Arm) (n : FullName) → IfSome arm (λ a. same_kind k a.kind ≡ true) → of_kind k (arm_of n (option_to_list arm)) ≡ arm_of n (option_to_list arm)
kind_there k None n e = refl
kind_there k (Some a) n e = go (same_name n a.name)
  where
    go : (b : Bool) → of_kind k (cond b (Some a) None) ≡ cond b (Some a) None
    go true = ap (λ (t : Bool). if t then Some a else None) e
    go false = refl

kind_gone : (k : ArmKind) (arm : Option Arm) (n : FullName) → IfSome arm (λ a. same_kind k a.kind ≡ false) → of_kind k (arm_of n (option_to_list arm)) ≡ None
kind_gone k None n e = refl
kind_gone k (Some a) n e = go (same_name n a.name)
  where
    go : (b : Bool) → of_kind k (cond b (Some a) None) ≡ None
    go true = ap (λ (t : Bool). if t then Some a else None) e
    go false = refl

kind_test : (j k : ArmKind) (b : Bool) (arm : Option Arm) → same_kind j k ≡ b → IfSome arm (λ a. a.kind ≡ k) → IfSome arm (λ a. same_kind j a.kind ≡ b)
kind_test j k b None t e = tt
kind_test j k b (Some a) t e = ap (same_kind j) e ∙ t

ask_more : (held : Bool) (now : ℕ) (arm : Option Arm) (calls : List AskCall) (n : FullName) → IfSome arm (λ a. a.kind ≡ (if held then Fix else Ask))
    → ask_timer (calls ++ (if held then [] else sets now (option_to_list arm))) n ≡ or_else (option_map (armed_at now) (of_kind Ask (arm_of n (option_to_list arm)))) (ask_timer calls n)
ask_more true now arm calls n kind =
    ap (λ cs. ask_timer cs n) (append-nil calls)
    ∙ ap (λ o. or_else (option_map (armed_at now) o) (ask_timer calls n)) (sym (kind_gone Ask arm n (kind_test Ask Fix false arm refl kind)))
ask_more false now arm calls n kind =
    ask_timer-sets calls now (option_to_list arm) n (one_rises arm)
    ∙ ap (λ o. or_else (option_map (armed_at now) o) (ask_timer calls n)) (sym (kind_there Ask arm n (kind_test Ask Ask true arm refl kind)))

fix_more : (held : Bool) (name : FullName) (from now : ℕ) (arm : Option Arm) (calls : List FixCall) (n : FullName) → IfSome arm (λ a. a.kind ≡ (if held then Fix else Ask))
    → fix_timer (calls ++ Asked name from ∷ (if held then sets_fix now (option_to_list arm) else [])) n ≡ or_else (option_map (armed_at now) (of_kind Fix (arm_of n (option_to_list arm)))) (fix_timer calls n)
fix_more true name from now arm calls n kind =
    ap (λ cs. fix_timer cs n) (sym (append_assoc calls (Asked name from ∷ []) (sets_fix now (option_to_list arm))))
    ∙ fix_timer-sets (calls ++ Asked name from ∷ []) now (option_to_list arm) n (one_rises arm)
    ∙ ap (λ o. or_else (option_map (armed_at now) o) (fix_timer (calls ++ Asked name from ∷ []) n)) (sym (kind_there Fix arm n (kind_test Fix Fix true arm refl kind)))
    ∙ ap (or_else (option_map (armed_at now) (of_kind Fix (arm_of n (option_to_list arm))))) (fix_timer-asked calls name from n)
fix_more false name from now arm calls n kind =
    fix_timer-asked calls name from n
    ∙ ap (λ o. or_else (option_map (armed_at now) o) (fix_timer calls n)) (sym (kind_gone Fix arm n (kind_test Fix Ask false arm refl kind)))

asked_more : (held : Bool) (name : FullName) (from now : ℕ) (arm : Option Arm) (calls : List FixCall) (n : FullName)
    → asked_first (calls ++ Asked name from ∷ (if held then sets_fix now (option_to_list arm) else [])) n ≡ or_else (asked_first calls n) (if same_name n name then Some from else None)
asked_more true name from now arm calls n =
    ap (λ cs. asked_first cs n) (sym (append_assoc calls (Asked name from ∷ []) (sets_fix now (option_to_list arm))))
    ∙ asked_first-append (calls ++ Asked name from ∷ []) (sets_fix now (option_to_list arm)) n (no_asker-sets now (option_to_list arm) n)
    ∙ asked_first-snoc calls (Asked name from) n
asked_more false name from now arm calls n = asked_first-snoc calls (Asked name from) n

off_more : (held : Bool) (name : FullName) (from now : ℕ) (arm : Option Arm) (calls : List FixCall) (n : FullName) (u : ℕ)
    → calls_hold_off (calls ++ Asked name from ∷ (if held then sets_fix now (option_to_list arm) else [])) n u ≡ calls_hold_off calls n u
off_more true name from now arm calls n u =
    ap (λ cs. calls_hold_off cs n u) (sym (append_assoc calls (Asked name from ∷ []) (sets_fix now (option_to_list arm))))
    ∙ calls_hold_off-append (calls ++ Asked name from ∷ []) (sets_fix now (option_to_list arm)) n u (none_off-sets now (option_to_list arm) n u)
    ∙ calls_hold_off-asked calls name from n u
off_more false name from now arm calls n u = calls_hold_off-asked calls name from n u

asker_joins : (a s : Bool) (from : ℕ) (first : Option ℕ) → or_else (or_else first (if a then Some from else None)) (if s then Some from else None) ≡ or_else first (if (a || (s || false)) then Some from else None)
asker_joins a s from (Some x) = refl
asker_joins true s from None = refl
asker_joins false true from None = refl
asker_joins false false from None = refl

-- a name that wasn't answered yet has no arm
unarmed : {c : Config} {past : List Entry} {from : ℕ} {dist : List ℕ} {now : ℕ} {done : List FullName} {arms : List Arm} {t : TimersContent} (n : FullName)
    → AnsweredIn c past from dist now done arms t → among done n ≡ false → arm_of n arms ≡ None
unarmed {done = done} {arms = arms} n a new = is_none (arm_of n arms) (arm_named n arms ∙ go (among (arm_names arms) n) refl)
  where
    go : (b : Bool) → among (arm_names arms) n ≡ b → b ≡ false
    go true e = sym (a.inside n e) ∙ new
    go false e = refl

-- the arm is the one that is wanted
wants : (c : Config) (past : List Entry) (from : ℕ) (dist : List ℕ) (now : ℕ) (done : List FullName) (arms : List Arm) (t t' : TimersContent) (held : Bool) (name : FullName) (arm : Option Arm)
    → AnsweredIn c past from dist now done arms t → held ≡ is_held past name → IsRequestHeard held name from dist now arm t t' → among done name ≡ false
    → option_map plan_of arm ≡ option_map (plan_at name) (wanted c past from dist now name)
wants c past from dist now done arms t t' held name arm a is ans new = go held is ans
  where
    none : arm_of name arms ≡ None
    none = unarmed name a new

    fix_at_name : fix_timer a.mid.fix_calls name ≡ fix_running past name
    fix_at_name = a.mid.fix_timers name ∙ ap (λ o. or_else (option_map (armed_at now) (of_kind Fix o)) (fix_running past name)) none

    ask_at_name : ask_timer a.mid.ask_calls name ≡ ask_running past name
    ask_at_name = a.mid.ask_timers name ∙ ap (λ o. or_else (option_map (armed_at now) (of_kind Ask o)) (ask_running past name)) none

    free : is_free a.mid.fix_calls name now ≡ (not (is_some (fix_running past name)) && not (held_off c past name now))
    free = ap (λ o. not (is_some o) && not (calls_hold_off a.mid.fix_calls name now)) fix_at_name
        ∙ ap (λ b. not (is_some (fix_running past name)) && not b) (a.mid.hold_offs name now ∙ or-false (held_off c past name now))

    go : (b : Bool) → b ≡ is_held past name → IsRequestHeard b name from dist now arm t t' → option_map plan_of arm ≡ option_map (plan_at name) (wanted c past from dist now name)
    go true e r =
        (r.to_fix refl).each c.d1 c.d2 a.mid.fix_calls a.mid.fixes
        ∙ ap (λ b. if true && b then Some (fixes.fix_plan name (distance_to dist from)) else None) free
        ∙ fix_plans name (distance_to dist from) (not (is_some (fix_running past name)) && not (held_off c past name now))
        ∙ ap (λ (b : Bool). option_map (plan_at name) (if b then (if not (is_some (fix_running past name)) && not (held_off c past name now) then Some (fixes.fix_basis (distance_to dist from)) else None)
        else option_map (λ i. asks.ask_basis i (distance_to dist name.stream.source)) (backs_off now (ask_running past name)))) e
    go false e r =
        r.to_ask refl c.c1 c.c2 a.mid.ask_calls a.mid.asks
        ∙ ap (λ o. option_map (ask_plan name (distance_to dist name.stream.source)) (backs_off now o)) ask_at_name
        ∙ option_plans name (distance_to dist name.stream.source) (backs_off now (ask_running past name))
        ∙ ap (λ (b : Bool). option_map (plan_at name) (if b then (if not (is_some (fix_running past name)) && not (held_off c past name now) then Some (fixes.fix_basis (distance_to dist from)) else None)
        else option_map (λ i. asks.ask_basis i (distance_to dist name.stream.source)) (backs_off now (ask_running past name)))) e

one_answered : (c : Config) (past : List Entry) (from : ℕ) (dist : List ℕ) (now : ℕ) (done : List FullName) (arms : List Arm) (t t' : TimersContent) (held : Bool) (name : FullName) (arm : Option Arm)
    → AnsweredIn c past from dist now done arms t → held ≡ is_held past name → IsRequestHeard held name from dist now arm t t' → ascending name_below (done ++ name ∷ []) ≡ true
    → AnsweredIn c past from dist now (done ++ name ∷ []) (arms ++ option_to_list arm) t'
one_answered c past from dist now done arms t t' held name arm a is ans rising = record {
  mid = record {
    ask_calls = a.mid.ask_calls ++ (if held then [] else sets now (option_to_list arm));
    asks = ans.asks.each c.c1 c.c2 a.mid.ask_calls a.mid.asks;
    ask_timers = λ n. ask_more held now arm a.mid.ask_calls n ans.kind
        ∙ ap (or_else (option_map (armed_at now) (of_kind Ask (arm_of n (option_to_list arm))))) (a.mid.ask_timers n)
        ∙ joined now Ask (arm_of n arms) (arm_of n (option_to_list arm)) (ask_running past n) (apart n)
        ∙ ap (λ o. or_else (option_map (armed_at now) (of_kind Ask o)) (ask_running past n)) (sym (arm_of-append n arms (option_to_list arm)));
    fix_calls = a.mid.fix_calls ++ Asked name from ∷ (if held then sets_fix now (option_to_list arm) else []);
    fixes = ans.fixes.each c.d1 c.d2 a.mid.fix_calls a.mid.fixes;
    fix_timers = λ n. fix_more held name from now arm a.mid.fix_calls n ans.kind
        ∙ ap (or_else (option_map (armed_at now) (of_kind Fix (arm_of n (option_to_list arm))))) (a.mid.fix_timers n)
        ∙ joined now Fix (arm_of n arms) (arm_of n (option_to_list arm)) (fix_running past n) (apart n)
        ∙ ap (λ o. or_else (option_map (armed_at now) (of_kind Fix o)) (fix_running past n)) (sym (arm_of-append n arms (option_to_list arm)));
    askers = λ n. asked_more held name from now arm a.mid.fix_calls n
        ∙ ap (λ o. or_else o (if same_name n name then Some from else None)) (a.mid.askers n)
        ∙ asker_joins (among done n) (same_name n name) from (first_of (asker n) past)
        ∙ ap (λ (b : Bool). or_else (first_of (asker n) past) (if b then Some from else None)) (sym (list_any-append (same_name n) done (name ∷ [])));
    hold_offs = λ n u. off_more held name from now arm a.mid.fix_calls n u ∙ a.mid.hold_offs n u;
  };
  rising = ap (ascending name_below) (map-append (λ (x : Arm). x.name) arms (option_to_list arm))
      ∙ ascending_joined (arm_names arms) (arm_names (option_to_list arm)) a.rising (one_rises arm)
      (λ x y i j. subst (λ k. name_below x k ≡ true) (sym (named_so arm plan y j)) (front_below done name x rising (a.inside x i)));
  inside = λ n at. list_any-append (same_name n) done (name ∷ [])
      ∙ within n (among (arm_names arms) n) refl (among (arm_names (option_to_list arm)) n) refl
      (sym (list_any-append (same_name n) (arm_names arms) (arm_names (option_to_list arm))) ∙ ap (λ ns. among ns n) (sym (map-append (λ (x : Arm). x.name) arms (option_to_list arm))) ∙ at);
  exact = λ n. ap (option_map wait_basis) (arm_of-append n arms (option_to_list arm) ∙ ap (or_else (arm_of n arms)) (arm_one n name arm (wanted c past from dist now name) plan))
      ∙ settled n (same_name n name) refl
      ∙ ap (λ (b : Bool). if b then wanted c past from dist now n else None) (sym (list_any-append (same_name n) done (name ∷ [])));
}
  where
    new : among done name ≡ false
    new = last_is_new done name rising

    plan : option_map plan_of arm ≡ option_map (plan_at name) (wanted c past from dist now name)
    plan = wants c past from dist now done arms t t' held name arm a is ans new

    named_so : (o : Option Arm) → option_map plan_of o ≡ option_map (plan_at name) (wanted c past from dist now name) → (y : FullName) → among (arm_names (option_to_list o)) y ≡ true → y ≡ name
    named_so None p y at = absurd (cc)
    named_so (Some x) p y at = same_name-is y x.name (sym (or-false (same_name y x.name)) ∙ at) ∙ plan_name name x (wanted c past from dist now name) p

    apart : (n : FullName) → is_some (arm_of n (option_to_list arm)) ≡ true → arm_of n arms ≡ None
    apart n there = ap (λ m. arm_of m arms) (named_so arm plan n (sym (arm_named n (option_to_list arm)) ∙ there)) ∙ unarmed name a new

    within : (n : FullName) (p : Bool) → among (arm_names arms) n ≡ p → (q : Bool) → among (arm_names (option_to_list arm)) n ≡ q → (p || q) ≡ true → (among done n || (same_name n name || false)) ≡ true
    within n true e q f h = ap (λ b. b || (same_name n name || false)) (a.inside n e)
    within n false e true f h = later (among done n) (ap (λ m. same_name m name) (named_so arm plan n f) ∙ same_name-itself name)
      where
        later : (b : Bool) → same_name n name ≡ true → (b || (same_name n name || false)) ≡ true
        later true k = refl
        later false k = or-false (same_name n name) ∙ k
    within n false e false f h = absurd (cc)

    settled : (n : FullName) (b : Bool) → same_name n name ≡ b → option_map wait_basis (or_else (arm_of n arms) (if b then arm else None)) ≡ (if (among done n || (same_name n name || false)) then wanted c past from dist now n else None)
    settled n true e =
        ap (λ o. option_map wait_basis (or_else o arm)) (ap (λ m. arm_of m arms) (same_name-is n name e) ∙ unarmed name a new)
        ∙ plan_setting name arm (wanted c past from dist now name) plan
        ∙ ap (wanted c past from dist now) (sym (same_name-is n name e))
        ∙ ap (λ (b : Bool). if b then wanted c past from dist now n else None) (sym (either (among done n) (same_name n name) e))
      where
        either : (p q : Bool) → q ≡ true → (p || (q || false)) ≡ true
        either true q k = refl
        either false q k = or-false q ∙ k
    settled n false e =
        ap (option_map wait_basis) (or_else-none (arm_of n arms)) ∙ a.exact n
        ∙ ap (λ (b : Bool). if b then wanted c past from dist now n else None) (sym (ap (λ q. among done n || (q || false)) e ∙ or-false (among done n)))

pub one_more_answered : (s : StoreContent) (from : ℕ) (dist : List ℕ) (now : ℕ) (asked : List FullName) (i : ℕ) (arms arms' : List Arm) (old t t' : TimersContent) (holds : Bool) (name : FullName) (arm : Option Arm)
    → i < length asked → name ≡ get_or asked i name
    → ((inserted : List Drawop) (shown : List FullName) (settled : List Settling) → StoreFits inserted shown settled s → holds ≡ stores.is_held inserted name)
    → AnsweredSoFar s from dist now asked i arms old t → IsRequestHeard holds name from dist now arm t t' → arms' ≡ arms ++ option_to_list arm
    → AnsweredSoFar s from dist now asked (i + 1) arms' old t'
one_more_answered s from dist now asked i arms arms' old t t' holds name arm lt is held_is h ans added = rw added (record {
  each = λ c past fits f rises.
      let front : take (i + 1) asked ≡ take i asked ++ name ∷ [] = take_more asked i name lt ∙ ap (λ n. take i asked ++ n ∷ []) (sym is) in
      subst (λ ns. AnsweredIn c past from dist now ns (arms ++ option_to_list arm) t') (sym front)
      (one_answered c past from dist now (take i asked) arms t t' holds name arm (h.each c past fits f rises) (held_is (held past) (evidence_in past) (settlings past) f) ans
      (ap (ascending name_below) (sym front) ∙ ascending_take name_below (i + 1) asked rises));
})

pub answered_unheld : (is_held : Bool) (name : FullName) (from : ℕ) (dist : List ℕ) (now : ℕ) (arm : Option Arm) (old noted new : TimersContent) → is_held ≡ false
    → FixAdds (Asked name from ∷ []) old.fixes noted.fixes → noted.asks ≡ old.asks → new.fixes ≡ noted.fixes → AskAdds (sets now (option_to_list arm)) noted.asks new.asks → IfSome arm (λ a. a.kind ≡ Ask)
    → ((c1 c2 : ℕ) (calls : List AskCall) → AskFits c1 c2 calls noted.asks → option_map plan_of arm ≡ option_map (ask_plan name (distance_to dist name.stream.source)) (backs_off now (ask_timer calls name)))
    → IsRequestHeard is_held name from dist now arm old new
answered_unheld is_held name from dist now arm old noted new e notes same_asks same_fixes set kind plan = go is_held e
  where
    go : (t : Bool) → t ≡ false → IsRequestHeard t name from dist now arm old new
    go true k = absurd (cc)
    go false k = record {
      fixes = rw same_fixes notes;
      asks = subst (λ (a : AskContent). AskAdds (sets now (option_to_list arm)) a new.asks) same_asks set;
      kind = kind;
      to_fix = λ t. absurd (cc);
      to_ask = λ f c1 c2 calls h. plan c1 c2 calls (subst (AskFits c1 c2 calls) (sym same_asks) h);
    }
