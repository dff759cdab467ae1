-- One more call, in the repair timers.
use Rattle.std.proofs.Common.{◌≡◌, ℕ, ◌+◌, ◌*◌, ◌<◌, ◌≤◌, List, [], ◌∷◌, ◌++◌, length, get_or, take, Option, Some, None, Bool, true, false, cond, refl, sym, ap, subst, ◌∙◌, append_assoc, arith}
use Rattle.std.specs.Prelude.{if◌then◌else◌, option_map, nat_lt, ◌||◌, ◌&&◌, not, unwrap_or, is_some}
use Rattle.std.specs.List.{list_any}
use Rattle.std.proofs.Math.Bool.{or-false}
use Rattle.std.proofs.lemmas.List.Folds.{list_any-append, list_any_more}
use Rattle.std.proofs.lemmas.Bool.Decides.{nat_tests}
use Rattle.srm_names.specs.declared.limits.TheConstants.{MEMBERS}
use Rattle.srm_names.specs.FullName.{FullName}
use Rattle.srm_names.specs.Histories.{last_of, first_of, or_else}
use Rattle.srm_names.specs.Names.{same_name, name_below, ascending, among, AreExactly}
use Rattle.srm_names.proofs.Lists.{is_some_map}
use Rattle.srm_names.proofs.Same.{same_name-is, same_name-itself}
use Rattle.srm_names.proofs.Snoc.{or_else-none, last_of-snoc, last_of-append, first_of-snoc, list_any-snoc}
use Rattle.srm_timers.specs.declared.arm.Arm.{Arm}
use Rattle.srm_timers.specs.declared.arm.Armed.{Armed}
use Rattle.srm_deadlines.specs.declared.by_name.NamedValue.{NamedValue}
use Rattle.srm_timers.specs.Arms.{Plan, plan_of, runs_out_at, arm_names, arm_of}
use Rattle.srm_names.specs.Moments.{has_come}
use Rattle.srm_timers.specs.Distances.{distance_to}
use Rattle.srm_timers.specs.Expiries.{ExpiryContent, expiry_of, SetsExpiries}
use Rattle.srm_timers.specs.Timers.{armed_at}
use Rattle.srm_deadlines.specs.Places.{value_at, KeepsValues, Sets, ClearsAll, IsLeast}
use Rattle.srm_timers.specs.AskCalls.{flat}
use Rattle.srm_timers.specs.Marks.{NotesAsker, OffAsBefore}
use Rattle.srm_timers.specs.FixCalls.{FixCall, Asked, SetFix, Repaired, asker_by, asked_first, fix_timer_after, fix_timer, call_holds_off, calls_hold_off, is_free, sets_fix, repair_holds_until, repair_calls, FixFits, FixContent, FixStays, FixAdds, FixRepairs, FixDue, FixNext, FixIsFree, FixFirstAsker, NotesRequest, fix_plan, FixPlace, FixPlaces, HoldsOff, HoldAllOff, asker_at, is_held_off, held_off_until}
use Rattle.srm_timers.proofs.Arming.{last_arms}
pub use Rattle.srm_deadlines.proofs.Tables.{holds_on}
use Rattle.srm_timers.proofs.AskSteps.{if_same, flat_told, flat_set, ends_set, due_ran_out, first_end}

pub asked_first-snoc : (calls : List FixCall) (c : FixCall) (n : FullName) → asked_first (calls ++ c ∷ []) n ≡ or_else (asked_first calls n) (asker_by n c)
asked_first-snoc calls c n = first_of-snoc (asker_by n) calls c

-- calls that name no asker change none
pub asked_first-append : (calls more : List FixCall) (n : FullName) → first_of (asker_by n) more ≡ None → asked_first (calls ++ more) n ≡ asked_first calls n
asked_first-append [] more n e = e
asked_first-append (c ∷ calls) more n e = ap (or_else (asker_by n c)) (asked_first-append calls more n e)

pub no_asker-sets : (now : ℕ) (arms : List Arm) (n : FullName) → first_of (asker_by n) (sets_fix now arms) ≡ None
no_asker-sets now [] n = refl
no_asker-sets now (a ∷ arms) n = no_asker-sets now arms n

pub no_asker-repairs : (now : ℕ) (dist : List ℕ) (calls : List FixCall) (names : List FullName) (n : FullName) → first_of (asker_by n) (repair_calls now dist calls names) ≡ None
no_asker-repairs now dist calls [] n = refl
no_asker-repairs now dist calls (m ∷ names) n = no_asker-repairs now dist calls names n

-- calls that hold no name off leave it as it was
pub calls_hold_off-append : (calls more : List FixCall) (n : FullName) (now : ℕ) → list_any (call_holds_off n now) more ≡ false → calls_hold_off (calls ++ more) n now ≡ calls_hold_off calls n now
calls_hold_off-append [] more n now e = e
calls_hold_off-append (c ∷ calls) more n now e = ap (λ b. call_holds_off n now c || b) (calls_hold_off-append calls more n now e)

pub none_off-sets : (m : ℕ) (arms : List Arm) (n : FullName) (now : ℕ) → list_any (call_holds_off n now) (sets_fix m arms) ≡ false
none_off-sets m [] n now = refl
none_off-sets m (a ∷ arms) n now = none_off-sets m arms n now

pub fix_timer-asked : (calls : List FixCall) (name : FullName) (from : ℕ) (n : FullName) → fix_timer (calls ++ Asked name from ∷ []) n ≡ fix_timer calls n
fix_timer-asked calls name from n = ap flat (last_of-snoc (fix_timer_after n) calls (Asked name from))

pub fix_timer-sets : (calls : List FixCall) (now : ℕ) (arms : List Arm) (n : FullName) → ascending name_below (arm_names arms) ≡ true
    → fix_timer (calls ++ sets_fix now arms) n ≡ or_else (option_map (armed_at now) (arm_of n arms)) (fix_timer calls n)
fix_timer-sets calls now arms n rising =
    ap flat (last_of-append (fix_timer_after n) calls (sets_fix now arms) ∙ ap (λ o. or_else o (last_of (fix_timer_after n) calls)) (last_arms fix_timer_after (SetFix now) (λ a. Some (armed_at now a)) (λ m a. refl) n arms rising))
    ∙ flat_set now (arm_of n arms) (last_of (fix_timer_after n) calls)

pub fix_timer-repaired : (calls : List FixCall) (name : FullName) (until : ℕ) (n : FullName)
    → fix_timer (calls ++ Repaired name until ∷ []) n ≡ (if same_name n name then None else fix_timer calls n)
fix_timer-repaired calls name until n = ap flat (last_of-snoc (fix_timer_after n) calls (Repaired name until)) ∙ flat_told (same_name n name) None (last_of (fix_timer_after n) calls)

pub calls_hold_off-asked : (calls : List FixCall) (name : FullName) (from : ℕ) (n : FullName) (now : ℕ) → calls_hold_off (calls ++ Asked name from ∷ []) n now ≡ calls_hold_off calls n now
calls_hold_off-asked calls name from n now = list_any-snoc (call_holds_off n now) calls (Asked name from) ∙ or-false (calls_hold_off calls n now)

pub calls_hold_off-repaired : (calls : List FixCall) (name : FullName) (until : ℕ) (n : FullName) (now : ℕ)
    → calls_hold_off (calls ++ Repaired name until ∷ []) n now ≡ calls_hold_off calls n now || same_name n name && nat_lt now until
calls_hold_off-repaired calls name until n now = list_any-snoc (call_holds_off n now) calls (Repaired name until)

-- who asked is noted, with the askers as they are then
fits_asked : (d1 d2 : ℕ) (calls : List FixCall) (name : FullName) (from : ℕ) (a b : FixContent) → FixFits d1 d2 calls a → b.d1 ≡ a.d1 → b.d2 ≡ a.d2
    → b.expiries ≡ a.expiries → OffAsBefore a.held_off b.held_off → NotesAsker name from a.askers b.askers
    → FixFits d1 d2 (calls ++ Asked name from ∷ []) b
fits_asked d1 d2 calls name from a b h p q expiries held_off askers = record {
  d1_is = p ∙ h.d1_is;
  d2_is = q ∙ h.d2_is;
  askers = λ n. askers.each n ∙ ap (λ o. or_else o (if same_name n name then Some from else None)) (h.askers n) ∙ sym (asked_first-snoc calls (Asked name from) n);
  expiries = λ n. ap (λ (e : ExpiryContent). value_at e.places n) expiries ∙ h.expiries n ∙ sym (ap (option_map runs_out_at) (fix_timer-asked calls name from n));
  held_off = λ n now. held_off.each n now ∙ h.held_off n now ∙ sym (calls_hold_off-asked calls name from n now);
}

pub new_asker : (name : FullName) (from : ℕ) (n : FullName) (f : FullName → Option ℕ) → f name ≡ None → (b : Bool) → same_name n name ≡ b
    → (if b then Some from else f n) ≡ or_else (f n) (if b then Some from else None)
new_asker name from n f none true same = sym (ap (λ o. or_else o (Some from)) (ap f (same_name-is n name same) ∙ none))
new_asker name from n f none false other = sym (or_else-none (f n))

-- timers are set
pub fits_sets_fix : (d1 d2 : ℕ) (calls : List FixCall) (now : ℕ) (arms : List Arm) (a b : FixContent) → FixFits d1 d2 calls a → b.d1 ≡ a.d1 → b.d2 ≡ a.d2
    → b.askers ≡ a.askers → b.held_off ≡ a.held_off → ascending name_below (arm_names arms) ≡ true → SetsExpiries now arms a.expiries.places b.expiries.places
    → FixFits d1 d2 (calls ++ sets_fix now arms) b
fits_sets_fix d1 d2 calls now arms a b h p q askers held_off rising expiries = record {
  d1_is = p ∙ h.d1_is;
  d2_is = q ∙ h.d2_is;
  askers = λ n. ap (λ e. value_at e n) askers ∙ h.askers n ∙ sym (asked_first-append calls (sets_fix now arms) n (no_asker-sets now arms n));
  expiries = λ n. expiries.each n ∙ ap (or_else (option_map (expiry_of now) (arm_of n arms))) (h.expiries n) ∙ ends_set now (arm_of n arms) (fix_timer calls n)
      ∙ sym (ap (option_map runs_out_at) (fix_timer-sets calls now arms n rising));
  held_off = λ n t. ap (λ e. nat_lt t (unwrap_or (value_at e n) 0)) held_off ∙ h.held_off n t ∙ sym (calls_hold_off-append calls (sets_fix now arms) n t (none_off-sets now arms n t));
}

-- one end is set
pub ends_one : (now : ℕ) (arm : Arm) (old new : List (NamedValue ℕ)) → Sets arm.name (Some (now + arm.wait)) old new → SetsExpiries now (arm ∷ []) old new
ends_one now arm old new h = record { each = λ n. h.each n ∙ go (same_name n arm.name) (value_at old n) }
  where
    go : (b : Bool) (o : Option ℕ) → (if b then Some (now + arm.wait) else o) ≡ or_else (option_map (expiry_of now) (cond b (Some arm) None)) o
    go true o = refl
    go false o = refl

map_if : {X Y : Type 0} (f : X → Y) (b : Bool) (o p : Option X) → option_map f (if b then o else p) ≡ (if b then option_map f o else option_map f p)
map_if f true o p = refl
map_if f false o p = refl

-- a repair was heard or made
fits_ended : (d1 d2 : ℕ) (calls : List FixCall) (name : FullName) (until : ℕ) (a b : FixContent) → FixFits d1 d2 calls a → b.d1 ≡ a.d1 → b.d2 ≡ a.d2
    → KeepsValues a.askers b.askers → Sets name None a.expiries.places b.expiries.places
    → ((n : FullName) (now : ℕ) → nat_lt now (unwrap_or (value_at b.held_off n) 0) ≡ nat_lt now (unwrap_or (value_at a.held_off n) 0) || same_name n name && nat_lt now until)
    → FixFits d1 d2 (calls ++ Repaired name until ∷ []) b
fits_ended d1 d2 calls name until a b h p q askers expiries held_off = record {
  d1_is = p ∙ h.d1_is;
  d2_is = q ∙ h.d2_is;
  askers = λ n. askers.each n ∙ h.askers n ∙ sym (asked_first-append calls (Repaired name until ∷ []) n refl);
  expiries = λ n. expiries.each n ∙ if_same (same_name n name) _ _ _ (h.expiries n)
      ∙ sym (ap (option_map runs_out_at) (fix_timer-repaired calls name until n) ∙ map_if runs_out_at (same_name n name) _ _);
  held_off = λ n t. held_off n t ∙ ap (λ b. b || same_name n name && nat_lt t until) (h.held_off n t) ∙ sym (calls_hold_off-repaired calls name until n t);
}

longer : (name : FullName) (until : ℕ) (f : FullName → Option ℕ) → unwrap_or (f name) 0 < until → (n : FullName) (now : ℕ) (b : Bool) → same_name n name ≡ b
    → nat_lt now (unwrap_or (if b then Some until else f n) 0) ≡ nat_lt now (unwrap_or (f n) 0) || b && nat_lt now until
longer name until f less n now true same = let e : unwrap_or (f n) 0 ≡ unwrap_or (f name) 0 = ap (λ m. unwrap_or (f m) 0) (same_name-is n name same) in go (unwrap_or (f n) 0) (omega arith)
  where
    go : (old : ℕ) → old < until → nat_lt now until ≡ nat_lt now old || nat_lt now until
    go old less = grind (arith, nat_tests)
longer name until f less n now false other = sym (or-false (nat_lt now (unwrap_or (f n) 0)))

as_long : (name : FullName) (until : ℕ) (f : FullName → Option ℕ) → until ≤ unwrap_or (f name) 0 → (n : FullName) (now : ℕ) (b : Bool) → same_name n name ≡ b
    → nat_lt now (unwrap_or (f n) 0) ≡ nat_lt now (unwrap_or (f n) 0) || b && nat_lt now until
as_long name until f more n now true same = let e : unwrap_or (f n) 0 ≡ unwrap_or (f name) 0 = ap (λ m. unwrap_or (f m) 0) (same_name-is n name same) in go (unwrap_or (f n) 0) (omega arith)
  where
    go : (old : ℕ) → until ≤ old → nat_lt now old ≡ nat_lt now old || nat_lt now until
    go old more = grind (arith, nat_tests)
as_long name until f more n now false other = sym (or-false (nat_lt now (unwrap_or (f n) 0)))

-- a longer hold-off takes the place of the one before, and a shorter one doesn't
pub held_longer : (name : FullName) (until kept : ℕ) (old new : List (NamedValue ℕ)) → kept ≡ unwrap_or (value_at old name) 0 → kept < until → Sets name (Some until) old new → HoldsOff name until old new
held_longer name until kept old new is less sets = record {
  each = λ n now. ap (λ o. nat_lt now (unwrap_or o 0)) (sets.each n) ∙ longer name until (value_at old) (subst (λ k. k < until) is less) n now (same_name n name) refl;
}

pub held_as_long : (name : FullName) (until kept : ℕ) (held_off : List (NamedValue ℕ)) → kept ≡ unwrap_or (value_at held_off name) 0 → until ≤ kept → HoldsOff name until held_off held_off
held_as_long name until kept held_off is more = record { each = λ n now. as_long name until (value_at held_off) (subst (λ k. until ≤ k) is more) n now (same_name n name) refl }

-- one more name of those that are held off in one call
pub held_more : (now : ℕ) (dist : List ℕ) (names : List FullName) (i : ℕ) (name : FullName) (distance member : ℕ) (askers old mid new : List (NamedValue ℕ)) → i < length names → name ≡ get_or names i name
    → member ≡ asker_at askers name → member < MEMBERS → distance ≡ distance_to dist member → HoldAllOff now dist (take i names) askers old mid → HoldsOff name (now + 3 * distance) mid new
    → HoldAllOff now dist (take (i + 1) names) askers old new
held_more now dist names i name distance member askers old mid new lt is asker below far so_far next = record {
  each = λ n t. next.each n t ∙ ap (λ b. b || same_name n name && nat_lt t (now + 3 * distance)) (so_far.each n t)
      ∙ go n t (is_held_off old n t) (among (take i names) n) (same_name n name) refl
      ∙ ap (λ b. is_held_off old n t || b && nat_lt t (held_off_until now dist askers n)) (ap (λ m. among (take i names) n || same_name n m) is ∙ sym (list_any_more (same_name n) names i name lt));
  near = λ n at. near_one n (among (take i names) n) (same_name n name) refl (so_far.near n)
      (ap (λ m. among (take i names) n || same_name n m) is ∙ sym (list_any_more (same_name n) names i name lt) ∙ at);
}
  where
    near_one : (n : FullName) (b s : Bool) → same_name n name ≡ s → (b ≡ true → asker_at askers n < MEMBERS) → (b || s) ≡ true → asker_at askers n < MEMBERS
    near_one n true s e before at = before refl
    near_one n false true e before at = subst (λ m. asker_at askers m < MEMBERS) (sym (same_name-is n name e)) (subst (λ k. k < MEMBERS) asker below)
    near_one n false false e before at = absurd (cc)

    end : (n : FullName) → same_name n name ≡ true → now + 3 * distance ≡ held_off_until now dist askers n
    end n e = ap (λ d. now + 3 * d) (far ∙ ap (distance_to dist) asker) ∙ ap (held_off_until now dist askers) (sym (same_name-is n name e))

    merge : (a b s l : Bool) → ((a || b && l) || s && l) ≡ (a || (b || s) && l)
    merge true b s l = refl
    merge false true true true = refl
    merge false true true false = refl
    merge false true false l = or-false l
    merge false false s l = refl

    go : (n : FullName) (t : ℕ) (a b s : Bool) → same_name n name ≡ s
        → ((a || b && nat_lt t (held_off_until now dist askers n)) || s && nat_lt t (now + 3 * distance)) ≡ (a || (b || s) && nat_lt t (held_off_until now dist askers n))
    go n t a b true e = ap (λ u. (a || b && nat_lt t (held_off_until now dist askers n)) || nat_lt t u) (end n e) ∙ merge a b true (nat_lt t (held_off_until now dist askers n))
    go n t a b false e = merge a b false (nat_lt t (held_off_until now dist askers n))

-- names are repaired in one call: what their repairs say of the timer and of the hold-off of a name
abbrev cancelled : Bool → Option (Option Armed)
cancelled b = if b then Some None else None

repairs_cancel : (now : ℕ) (dist : List ℕ) (calls : List FixCall) (names : List FullName) (n : FullName) → last_of (fix_timer_after n) (repair_calls now dist calls names) ≡ cancelled (among names n)
repairs_cancel now dist calls [] n = refl
repairs_cancel now dist calls (m ∷ names) n = ap (λ o. or_else o (cancelled (same_name n m))) (repairs_cancel now dist calls names n) ∙ go (same_name n m) (among names n)
  where
    go : (a b : Bool) → or_else (cancelled b) (cancelled a) ≡ cancelled (a || b)
    go true true = refl
    go true false = refl
    go false true = refl
    go false false = refl

repairs_hold : (now : ℕ) (dist : List ℕ) (calls : List FixCall) (names : List FullName) (n : FullName) (t : ℕ) → list_any (call_holds_off n t) (repair_calls now dist calls names) ≡ (among names n && nat_lt t (repair_holds_until now dist calls n))
repairs_hold now dist calls [] n t = refl
repairs_hold now dist calls (m ∷ names) n t = ap (λ b. same_name n m && nat_lt t (repair_holds_until now dist calls m) || b) (repairs_hold now dist calls names n t) ∙ go (same_name n m) refl (among names n)
  where
    both : (b l : Bool) → (l || b && l) ≡ l
    both true true = refl
    both true false = refl
    both false l = or-false l

    go : (a : Bool) → same_name n m ≡ a → (b : Bool) → (a && nat_lt t (repair_holds_until now dist calls m) || b && nat_lt t (repair_holds_until now dist calls n)) ≡ ((a || b) && nat_lt t (repair_holds_until now dist calls n))
    go true e b = ap (λ k. nat_lt t (repair_holds_until now dist calls k) || b && nat_lt t (repair_holds_until now dist calls n)) (sym (same_name-is n m e)) ∙ both b (nat_lt t (repair_holds_until now dist calls n))
    go false e b = refl

cancels : (b : Bool) (o : Option Armed) (last : Option (Option Armed)) → flat last ≡ o → option_map runs_out_at (flat (or_else (cancelled b) last)) ≡ (if b then None else option_map runs_out_at o)
cancels true o last e = refl
cancels false o last e = ap (option_map runs_out_at) e

flat_cancelled : (b : Bool) (last : Option (Option Armed)) → flat (or_else (cancelled b) last) ≡ (if b then None else flat last)
flat_cancelled true last = refl
flat_cancelled false last = refl

pub asked_first-repairs : (now : ℕ) (dist : List ℕ) (calls : List FixCall) (names : List FullName) (n : FullName) → asked_first (calls ++ repair_calls now dist calls names) n ≡ asked_first calls n
asked_first-repairs now dist calls names n = asked_first-append calls (repair_calls now dist calls names) n (no_asker-repairs now dist calls names n)

pub fix_timer-repairs : (now : ℕ) (dist : List ℕ) (calls : List FixCall) (names : List FullName) (n : FullName)
    → fix_timer (calls ++ repair_calls now dist calls names) n ≡ (if among names n then None else fix_timer calls n)
fix_timer-repairs now dist calls names n =
    ap flat (last_of-append (fix_timer_after n) calls (repair_calls now dist calls names) ∙ ap (λ o. or_else o (last_of (fix_timer_after n) calls)) (repairs_cancel now dist calls names n))
    ∙ flat_cancelled (among names n) (last_of (fix_timer_after n) calls)

pub calls_hold_off-repairs : (now : ℕ) (dist : List ℕ) (calls : List FixCall) (names : List FullName) (n : FullName) (t : ℕ)
    → calls_hold_off (calls ++ repair_calls now dist calls names) n t ≡ (calls_hold_off calls n t || among names n && nat_lt t (repair_holds_until now dist calls n))
calls_hold_off-repairs now dist calls names n t = list_any-append (call_holds_off n t) calls (repair_calls now dist calls names) ∙ ap (λ b. calls_hold_off calls n t || b) (repairs_hold now dist calls names n t)

pub repairs_all : (now : ℕ) (dist : List ℕ) (names : List FullName) (a b : FixContent) → b.d1 ≡ a.d1 → b.d2 ≡ a.d2 → KeepsValues a.askers b.askers → ClearsAll names a.expiries.places b.expiries.places
    → HoldAllOff now dist names a.askers a.held_off b.held_off → FixRepairs now dist names a b
repairs_all now dist names a b p q askers expiries off = record {
  near = λ d1 d2 calls h n at. subst (λ o. unwrap_or o n.stream.source < MEMBERS) (h.askers n) (off.near n at);
  each = λ d1 d2 calls h. record {
    d1_is = p ∙ h.d1_is;
    d2_is = q ∙ h.d2_is;
    askers = λ n. askers.each n ∙ h.askers n ∙ sym (asked_first-append calls (repair_calls now dist calls names) n (no_asker-repairs now dist calls names n));
    expiries = λ n. expiries.each n ∙ ap (λ o. if among names n then None else o) (h.expiries n)
        ∙ sym (ap (λ o. option_map runs_out_at (flat o)) (last_of-append (fix_timer_after n) calls (repair_calls now dist calls names) ∙ ap (λ o. or_else o (last_of (fix_timer_after n) calls)) (repairs_cancel now dist calls names n))
        ∙ cancels (among names n) (fix_timer calls n) (last_of (fix_timer_after n) calls) refl);
    held_off = λ n t. off.each n t ∙ ap (λ b. b || among names n && nat_lt t (held_off_until now dist a.askers n)) (h.held_off n t)
        ∙ ap (λ o. calls_hold_off calls n t || among names n && nat_lt t (now + 3 * distance_to dist (unwrap_or o n.stream.source))) (h.askers n)
        ∙ sym (list_any-append (call_holds_off n t) calls (repair_calls now dist calls names) ∙ ap (λ b. calls_hold_off calls n t || b) (repairs_hold now dist calls names n t));
  };
}

-- nothing changes
pub fix_stays : (a b : FixContent) → b.d1 ≡ a.d1 → b.d2 ≡ a.d2 → KeepsValues a.expiries.places b.expiries.places → KeepsValues a.askers b.askers → KeepsValues a.held_off b.held_off → FixStays a b
fix_stays a b p q expiries askers held_off = record {
  each = λ d1 d2 calls h. record {
    d1_is = p ∙ h.d1_is;
    d2_is = q ∙ h.d2_is;
    askers = λ n. askers.each n ∙ h.askers n;
    expiries = λ n. expiries.each n ∙ h.expiries n;
    held_off = λ n now. ap (λ o. nat_lt now (unwrap_or o 0)) (held_off.each n) ∙ h.held_off n now;
  };
}

-- whether a request sets the timer of a name
pub free_is : (d1 d2 : ℕ) (calls : List FixCall) (a : FixContent) (n : FullName) (now : ℕ) → FixFits d1 d2 calls a
    → (not (is_some (value_at a.expiries.places n)) && not (nat_lt now (unwrap_or (value_at a.held_off n) 0))) ≡ is_free calls n now
free_is d1 d2 calls a n now h =
    ap (λ o. not (is_some o) && not (nat_lt now (unwrap_or (value_at a.held_off n) 0))) (h.expiries n)
    ∙ ap (λ b. not b && not (nat_lt now (unwrap_or (value_at a.held_off n) 0))) (is_some_map runs_out_at (fix_timer calls n))
    ∙ ap (λ b. not (is_some (fix_timer calls n)) && not b) (h.held_off n now)

pub fix_stays_on : (a b c : FixContent) → FixStays a b → FixStays b c → FixStays a c
fix_stays_on a b c p q = record { each = λ d1 d2 calls h. q.each d1 d2 calls (p.each d1 d2 calls h) }

-- a place for the one name
pub one_place : (a : FixContent) (name : FullName) → FixPlace a name → FixPlaces (name ∷ []) a
one_place a name h = record { each = λ n at. go n (same_name n name) refl at }
  where
    go : (n : FullName) (b : Bool) → same_name n name ≡ b → (b || false) ≡ true → FixPlace a n
    go n true same at = subst (FixPlace a) (sym (same_name-is n name same)) h
    go n false same at = cc

pub one_placed : (a : FixContent) (name : FullName) → FixPlaces (name ∷ []) a → FixPlace a name
one_placed a name h = h.each name (ap (λ b. b || false) (same_name-itself name))

-- a request sets a timer, or doesn't
pub answered : (b told : Bool) (p q : Plan) → b ≡ true → b ≡ told → p ≡ q → Some p ≡ (if told then Some q else None)
answered b told p q sets is same = ap Some same ∙ ap (λ t. if t then Some q else None) (sym sets ∙ is)

pub unanswered : (b told : Bool) (q : Plan) → b ≡ false → b ≡ told → None ≡ (if told then Some q else None)
unanswered b told q none is = ap (λ t. if t then Some q else None) (sym none ∙ is)

-- the same, for every list of calls
pub note_adds : (name : FullName) (from : ℕ) (a b : FixContent) → b.d1 ≡ a.d1 → b.d2 ≡ a.d2 → b.expiries ≡ a.expiries → OffAsBefore a.held_off b.held_off → NotesAsker name from a.askers b.askers → FixAdds (Asked name from ∷ []) a b
note_adds name from a b p q expiries held_off noted = record { each = λ d1 d2 calls h. fits_asked d1 d2 calls name from a b h p q expiries held_off noted }

pub set_adds_fix : (now : ℕ) (arm : Arm) (a b : FixContent) → b.d1 ≡ a.d1 → b.d2 ≡ a.d2 → b.askers ≡ a.askers → b.held_off ≡ a.held_off
    → Sets arm.name (Some (now + arm.wait)) a.expiries.places b.expiries.places → FixAdds (SetFix now arm ∷ []) a b
set_adds_fix now arm a b p q askers held_off expiries = record { each = λ d1 d2 calls h. fits_sets_fix d1 d2 calls now (arm ∷ []) a b h p q askers held_off refl (ends_one now arm a.expiries.places b.expiries.places expiries) }

pub sets_adds_fix : (now : ℕ) (arms : List Arm) (a b : FixContent) → b.d1 ≡ a.d1 → b.d2 ≡ a.d2 → b.askers ≡ a.askers → b.held_off ≡ a.held_off
    → ascending name_below (arm_names arms) ≡ true → SetsExpiries now arms a.expiries.places b.expiries.places → FixAdds (sets_fix now arms) a b
sets_adds_fix now arms a b p q askers held_off rising expiries = record { each = λ d1 d2 calls h. fits_sets_fix d1 d2 calls now arms a b h p q askers held_off rising expiries }

pub repaired_adds : (name : FullName) (until : ℕ) (a b : FixContent) → b.d1 ≡ a.d1 → b.d2 ≡ a.d2 → KeepsValues a.askers b.askers → Sets name None a.expiries.places b.expiries.places
    → HoldsOff name until a.held_off b.held_off → FixAdds (Repaired name until ∷ []) a b
repaired_adds name until a b p q askers expiries off = record { each = λ d1 d2 calls h. fits_ended d1 d2 calls name until a b h p q askers expiries off.each }

pub is_free_is : (name : FullName) (now : ℕ) (a : FixContent) (runs off : Bool) → runs ≡ is_some (value_at a.expiries.places name) → off ≡ nat_lt now (unwrap_or (value_at a.held_off name) 0)
    → FixIsFree name now a (not runs && not off)
is_free_is name now a runs off runs_is off_is = record {
  each = λ d1 d2 calls h. ap (λ b. not b && not off) runs_is ∙ ap (λ b. not (is_some (value_at a.expiries.places name)) && not b) off_is ∙ free_is d1 d2 calls a name now h;
}

pub first_is : (name : FullName) (a : FixContent) (member : ℕ) → member ≡ unwrap_or (value_at a.askers name) name.stream.source → FixFirstAsker name a member
first_is name a member is = record { each = λ d1 d2 calls h. is ∙ ap (λ o. unwrap_or o name.stream.source) (h.askers name) }

pub fix_due_is : (now : ℕ) (a : FixContent) (names : List FullName) → AreExactly (λ n. has_come now (value_at a.expiries.places n)) names → FixDue now a names
fix_due_is now a names due = record { each = λ d1 d2 calls h. due_ran_out now a.expiries.places (fix_timer calls) names h.expiries due }

pub repairs_after : (now : ℕ) (dist : List ℕ) (names names' : List FullName) (a b c : FixContent) → FixStays a b → names ≡ names' → FixRepairs now dist names b c → FixRepairs now dist names' a c
repairs_after now dist names names' a b c stays is repair_calls =
    subst (λ names. FixRepairs now dist names a c) is (record { each = λ d1 d2 calls h. repair_calls.each d1 d2 calls (stays.each d1 d2 calls h); near = λ d1 d2 calls h. repair_calls.near d1 d2 calls (stays.each d1 d2 calls h) })

-- a request: who asked, and its arm
pub asks_then_sets : (name : FullName) (from now : ℕ) (arm : Arm) (a b c : FixContent) → FixAdds (Asked name from ∷ []) a b → FixAdds (SetFix now arm ∷ []) b c → FixAdds (Asked name from ∷ SetFix now arm ∷ []) a c
asks_then_sets name from now arm a b c asked set = record {
  each = λ d1 d2 calls h. subst (λ cs. FixFits d1 d2 cs c) (append_assoc calls (Asked name from ∷ []) (SetFix now arm ∷ [])) (set.each d1 d2 _ (asked.each d1 d2 calls h));
}

pub answers_with : (name : FullName) (distance now : ℕ) (held free : Bool) (arm : Arm) (a : FixContent) → FixIsFree name now a free → (held && free) ≡ true
    → plan_of arm ≡ fix_plan name distance → NotesRequest name distance held now a (Some arm)
answers_with name distance now held free arm a is sets plan = record {
  each = λ d1 d2 calls h. answered (held && free) _ _ _ sets (ap (λ f. held && f) (is.each d1 d2 calls h)) plan;
}

pub answers_not : (name : FullName) (distance now : ℕ) (held free : Bool) (a : FixContent) → FixIsFree name now a free → (held && free) ≡ false → NotesRequest name distance held now a None
answers_not name distance now held free a is sets = record {
  each = λ d1 d2 calls h. unanswered (held && free) _ _ sets (ap (λ f. held && f) (is.each d1 d2 calls h));
}

-- where room was made before
pub adds_after : (more : List FixCall) (a b c : FixContent) → FixStays a b → FixAdds more b c → FixAdds more a c
adds_after more a b c stays adds = record { each = λ d1 d2 calls h. adds.each d1 d2 calls (stays.each d1 d2 calls h) }

pub answers_after : (name : FullName) (distance now : ℕ) (held : Bool) (arm : Option Arm) (a b : FixContent) → FixStays a b → NotesRequest name distance held now b arm → NotesRequest name distance held now a arm
answers_after name distance now held arm a b stays answers = record { each = λ d1 d2 calls h. answers.each d1 d2 calls (stays.each d1 d2 calls h) }

pub fix_next_is : (a : FixContent) (moment : Option ℕ) → IsLeast a.expiries.places moment → FixNext a moment
fix_next_is a moment least = record { each = λ d1 d2 calls h. first_end a.expiries.places (fix_timer calls) moment h.expiries least }
