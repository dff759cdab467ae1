-- One more call, in the request timers.
use Rattle.std.proofs.Common.{◌≡◌, ℕ, ◌≤◌, List, [], ◌∷◌, ◌++◌, map, length, Option, Some, None, Bool, true, false, cond, refl, sym, ap, subst, ◌∙◌}
use Rattle.std.specs.Prelude.{if◌then◌else◌, option_map, IsSome, is_some, IfSome, find, ◌||◌}
use Rattle.srm_names.specs.FullName.{FullName}
use Rattle.srm_names.specs.Histories.{last_of, or_else}
use Rattle.srm_names.specs.Names.{same_name, name_below, ascending, among, AreExactly}
use Rattle.srm_names.proofs.Snoc.{last_of-snoc, last_of-append}
use Rattle.srm_timers.specs.declared.arm.Arm.{Arm}
use Rattle.srm_timers.specs.declared.arm.Armed.{Armed}
use Rattle.srm_deadlines.specs.declared.by_name.NamedValue.{NamedValue}
use Rattle.srm_timers.specs.Arms.{arm_names, arm_of, runs_out_at, ran_out, backs_off, next_exponent, RunsOutFirst, plan_of}
use Rattle.srm_names.specs.Moments.{has_come}
use Rattle.srm_timers.specs.Expiries.{expiry_of}
use Rattle.srm_timers.specs.Timers.{armed_at, SetsTimers}
use Rattle.srm_deadlines.specs.Places.{value_at, value_in, is_at, has_place, KeepsValues, Sets, IsLeast}
use Rattle.srm_timers.specs.AskCalls.{AskCall, Set, Gained, timer_after, flat, ask_timer, sets, AskFits, AskContent, AskAdds, AskExponentWhenHeard, AskExponentWhenDue, AskNext, AskDue, ArmsOfFound, ArmsSetAgain, found_plan, found_basis, AskStays, ask_basis, ask_plan, AskReady, AskTimersRun, again_exponent, again_plan, again_basis, due_basis}
use Rattle.srm_timers.specs.Distances.{distance_to}
use Rattle.srm_timers.proofs.Arming.{last_arms, planned_names, planned_are}

pub if_same : {X : Type 0} (b : Bool) (x y z : X) → y ≡ z → (if b then x else y) ≡ (if b then x else z)
if_same true x y z e = refl
if_same false x y z e = e

pub flat_told : (b : Bool) (o : Option Armed) (last : Option (Option Armed)) → flat (or_else (if b then Some o else None) last) ≡ (if b then o else flat last)
flat_told true o last = refl
flat_told false o last = refl

pub flat_set : (now : ℕ) (o : Option Arm) (last : Option (Option Armed))
    → flat (or_else (option_map (λ a. Some (armed_at now a)) o) last) ≡ or_else (option_map (armed_at now) o) (flat last)
flat_set now None last = refl
flat_set now (Some a) last = refl

pub ask_timer-sets : (calls : List AskCall) (now : ℕ) (arms : List Arm) (n : FullName) → ascending name_below (arm_names arms) ≡ true
    → ask_timer (calls ++ sets now arms) n ≡ or_else (option_map (armed_at now) (arm_of n arms)) (ask_timer calls n)
ask_timer-sets calls now arms n rising =
    ap flat (last_of-append (timer_after n) calls (sets now arms) ∙ ap (λ o. or_else o (last_of (timer_after n) calls)) (last_arms timer_after (Set now) (λ a. Some (armed_at now a)) (λ m a. refl) n arms rising))
    ∙ flat_set now (arm_of n arms) (last_of (timer_after n) calls)

pub ask_timer-gained : (calls : List AskCall) (name n : FullName) → ask_timer (calls ++ Gained name ∷ []) n ≡ (if same_name n name then None else ask_timer calls n)
ask_timer-gained calls name n = ap flat (last_of-snoc (timer_after n) calls (Gained name)) ∙ flat_told (same_name n name) None (last_of (timer_after n) calls)

-- timers are set
pub fits_sets : (c1 c2 : ℕ) (calls : List AskCall) (now : ℕ) (arms : List Arm) (a b : AskContent) → AskFits c1 c2 calls a → b.c1 ≡ a.c1 → b.c2 ≡ a.c2
    → ascending name_below (arm_names arms) ≡ true → SetsTimers now arms a.timers b.timers → AskFits c1 c2 (calls ++ sets now arms) b
fits_sets c1 c2 calls now arms a b h p q rising timers = record {
  c1_is = p ∙ h.c1_is;
  c2_is = q ∙ h.c2_is;
  timers = λ n. timers.each n ∙ ap (or_else (option_map (armed_at now) (arm_of n arms))) (h.timers n) ∙ sym (ask_timer-sets calls now arms n rising);
}

-- one timer is set
pub sets_one : (now : ℕ) (arm : Arm) (old new : List (NamedValue Armed)) → Sets arm.name (Some (armed_at now arm)) old new → SetsTimers now (arm ∷ []) old new
sets_one now arm old new h = record { each = λ n. h.each n ∙ go (same_name n arm.name) (value_at old n) }
  where
    go : (b : Bool) (o : Option Armed) → (if b then Some (armed_at now arm) else o) ≡ or_else (option_map (armed_at now) (cond b (Some arm) None)) o
    go true o = refl
    go false o = refl

-- the expiries go with the timers
pub ends_set : (now : ℕ) (o : Option Arm) (t : Option Armed) → or_else (option_map (expiry_of now) o) (option_map runs_out_at t) ≡ option_map runs_out_at (or_else (option_map (armed_at now) o) t)
ends_set now None t = refl
ends_set now (Some a) t = refl

-- a name is gained
pub fits_gained : (c1 c2 : ℕ) (calls : List AskCall) (name : FullName) (a b : AskContent) → AskFits c1 c2 calls a → b.c1 ≡ a.c1 → b.c2 ≡ a.c2
    → Sets name None a.timers b.timers → AskFits c1 c2 (calls ++ Gained name ∷ []) b
fits_gained c1 c2 calls name a b h p q timers = record {
  c1_is = p ∙ h.c1_is;
  c2_is = q ∙ h.c2_is;
  timers = λ n. timers.each n ∙ if_same (same_name n name) _ _ _ (h.timers n) ∙ sym (ask_timer-gained calls name n);
}

-- no timer changes
pub stays_kept : (a b : AskContent) → b.c1 ≡ a.c1 → b.c2 ≡ a.c2 → KeepsValues a.timers b.timers → AskStays a b
stays_kept a b p q timers = record {
  each = λ c1 c2 calls h. record {
    c1_is = p ∙ h.c1_is;
    c2_is = q ∙ h.c2_is;
    timers = λ n. timers.each n ∙ h.timers n;
  };
}

pub keeps_self : {V : Type 0} (places : List (NamedValue V)) → KeepsValues places places
keeps_self places = record { each = λ n. refl }

pub come_ran_out : (now : ℕ) (o : Option Armed) → has_come now (option_map runs_out_at o) ≡ ran_out now o
come_ran_out now None = refl
come_ran_out now (Some a) = refl

-- what has expired by the expiries that are kept are the timers that ran out
pub due_ran_out : (now : ℕ) (expiries : List (NamedValue ℕ)) (timer : FullName → Option Armed) (names : List FullName) → ((n : FullName) → value_at expiries n ≡ option_map runs_out_at (timer n))
    → AreExactly (λ n. has_come now (value_at expiries n)) names → AreExactly (λ n. ran_out now (timer n)) names
due_ran_out now expiries timer names right due = record {
  in_order = due.in_order;
  exact = λ n. due.exact n ∙ ap (has_come now) (right n) ∙ come_ran_out now (timer n);
}

-- the least of the expiries is when the first timer runs out
pub first_end : (expiries : List (NamedValue ℕ)) (timer : FullName → Option Armed) (t : Option ℕ) → ((n : FullName) → value_at expiries n ≡ option_map runs_out_at (timer n)) → IsLeast expiries t → RunsOutFirst timer t
first_end expiries timer t right h = record {
  none = λ e n. no_timer (timer n) (sym (right n) ∙ h.none e n);
  least = sooner t h.least;
  is_one = one t h.is_one;
}
  where
    no_timer : (o : Option Armed) → option_map runs_out_at o ≡ None → o ≡ None
    no_timer None e = refl
    no_timer (Some a) e = cc

    until : (t : ℕ) (o : Option Armed) → IfSome (option_map runs_out_at o) (λ m. t ≤ m) → IfSome o (λ a. t ≤ runs_out_at a)
    until t None h = h
    until t (Some a) h = h

    sooner : (t : Option ℕ) → IfSome t (λ t. (n : FullName) → IfSome (value_at expiries n) (λ m. t ≤ m)) → IfSome t (λ t. (n : FullName) → IfSome (timer n) (λ a. t ≤ runs_out_at a))
    sooner None h = h
    sooner (Some t) h = λ n. until t (timer n) (subst (λ o. IfSome o (λ m. t ≤ m)) (right n) (h n))

    one : (t : Option ℕ) → IfSome t (λ t. (n : FullName) × (value_at expiries n ≡ Some t)) → IfSome t (λ t. (n : FullName) × (option_map runs_out_at (timer n) ≡ Some t))
    one None h = h
    one (Some t) (n, e) = (n, sym (right n) ∙ e)

-- how names whose timers ran out are armed again
pub again_due : (now : ℕ) (dist : List ℕ) (timer told : FullName → Option Armed) (n : FullName) (there : Bool) → there ≡ ran_out now (timer n) → timer n ≡ told n
    → (if there then Some (again_plan dist timer n).wait_basis else None) ≡ due_basis now dist told n
again_due now dist timer told n there e is = go (timer n) there e ∙ ap (λ o. if ran_out now o then option_map (again_basis (distance_to dist n.stream.source)) o else None) is
  where
    go : (o : Option Armed) (there : Bool) → there ≡ ran_out now o → (if there then Some (ask_basis (again_exponent o) (distance_to dist n.stream.source)) else None) ≡ (if ran_out now o then option_map (again_basis (distance_to dist n.stream.source)) o else None)
    go None true e = cc
    go None false e = refl
    go (Some a) there e = rw e (refl)

-- the exponent that is drawn with is the planned one
pub again_is : (o : Option Armed) (i : ℕ) → option_map next_exponent o ≡ Some i → i ≡ again_exponent o
again_is None i e = cc
again_is (Some a) i e = cc

pub ask_plan_is : (name : FullName) (d d' i i' : ℕ) → d ≡ d' → i ≡ i' → ask_plan name d i ≡ ask_plan name d' i'
ask_plan_is name d d' i i' p q = ap (λ k. ask_plan name k i) p ∙ ap (ask_plan name d') q

pub stays_on : (a b c : AskContent) → AskStays a b → AskStays b c → AskStays a c
stays_on a b c p q = record { each = λ c1 c2 calls h. q.each c1 c2 calls (p.each c1 c2 calls h) }

-- the list for the next answer has no part in what can be set
pub ready_still : (names : List FullName) (a : AskContent) (list : ℕ) → AskReady names a → AskReady names (record a { detect_room = list })
ready_still names a list h = record { expiries = h.expiries; timers = h.timers }

-- what has a value has a place
pub placed : {V : Type 0} (places : List (NamedValue V)) (n : FullName) → IsSome (value_at places n) → has_place places n ≡ true
placed [] n h = cc
placed (p ∷ places) n h = go (is_at n p) h (placed places n)
  where
    go : (b : Bool) → IsSome (value_in (cond b (Some p) (find (is_at n) places))) → (IsSome (value_at places n) → has_place places n ≡ true) → (b || has_place places n) ≡ true
    go true h more = refl
    go false h more = more h

-- the timers that ran out can be set again where there is room for so many
come_some : (now : ℕ) (o : Option ℕ) → has_come now o ≡ true → IsSome o
come_some now None e = cc
come_some now (Some t) e = refl

end_some : (o : Option Armed) → IsSome (option_map runs_out_at o) → IsSome o
end_some None h = h
end_some (Some a) h = refl

pub due_runs : (now : ℕ) (places : List (NamedValue ℕ)) (timers : List (NamedValue Armed)) (n : FullName) → value_at places n ≡ option_map runs_out_at (value_at timers n) → has_come now (value_at places n) ≡ true → IsSome (value_at timers n)
due_runs now places timers n right come = end_some (value_at timers n) (subst IsSome right (come_some now (value_at places n) come))

pub has_end : (o : Option Armed) → IsSome o → IsSome (option_map runs_out_at o)
has_end None h = h
has_end (Some a) h = refl

-- the names that are due have timers
pub timers_run : (now : ℕ) (a : AskContent) (names : List FullName) → ((n : FullName) → value_at a.expiries.places n ≡ option_map runs_out_at (value_at a.timers n))
    → AreExactly (λ n. has_come now (value_at a.expiries.places n)) names → AskTimersRun names a
timers_run now a names right due = record { each = λ n at. due_runs now a.expiries.places a.timers n (right n) (sym (due.exact n) ∙ at) }

-- names that have timers can be set again where there is room for so many
pub again_ready : (dist : List ℕ) (timer : FullName → Option Armed) (names : List FullName) (arms arms' : List Arm) (places : List (NamedValue ℕ)) (a b : AskContent)
    → ((n : FullName) → value_at places n ≡ option_map runs_out_at (value_at a.timers n)) → AskTimersRun names a → b.expiries.places ≡ places → b.timers ≡ a.timers → length names ≤ b.expiries.room
    → map plan_of arms ≡ map (again_plan dist timer) names → arms' ≡ arms → AskReady (arm_names arms') b
again_ready dist timer names arms arms' places a b right run same_ends same room plans is =
    subst (λ ns. AskReady ns b) (sym (ap arm_names is ∙ planned_names (again_plan dist timer) (λ n. refl) names arms plans)) (record {
      expiries = record { places = λ n at. ap (λ ps. has_place ps n) same_ends ∙ placed places n (ap is_some (right n) ∙ has_end (value_at a.timers n) (run.each n at)); room = room };
      timers = λ n at. ap (λ ps. has_place ps n) same ∙ placed a.timers n (run.each n at);
    })

pub backs_off_runs : (now i : ℕ) (o : Option Armed) → backs_off now o ≡ Some i → IsSome o
backs_off_runs now i None e = cc
backs_off_runs now i (Some a) e = refl

-- the same, for every list of calls
pub gained_adds : (name : FullName) (a b : AskContent) → b.c1 ≡ a.c1 → b.c2 ≡ a.c2 → Sets name None a.timers b.timers → AskAdds (Gained name ∷ []) a b
gained_adds name a b p q timers = record { each = λ c1 c2 calls h. fits_gained c1 c2 calls name a b h p q timers }

pub sets_adds : (now : ℕ) (arms : List Arm) (a b : AskContent) → b.c1 ≡ a.c1 → b.c2 ≡ a.c2 → ascending name_below (arm_names arms) ≡ true → SetsTimers now arms a.timers b.timers
    → AskAdds (sets now arms) a b
sets_adds now arms a b p q rising timers = record { each = λ c1 c2 calls h. fits_sets c1 c2 calls now arms a b h p q rising timers }

pub set_adds : (now : ℕ) (arm : Arm) (armed : Armed) (a b : AskContent) → b.c1 ≡ a.c1 → b.c2 ≡ a.c2 → armed ≡ armed_at now arm → Sets arm.name (Some armed) a.timers b.timers
    → AskAdds (Set now arm ∷ []) a b
set_adds now arm armed a b p q is timers =
    sets_adds now (arm ∷ []) a b p q refl (sets_one now arm a.timers b.timers (subst (λ (t : Armed). Sets arm.name (Some t) a.timers b.timers) is timers))

-- arms that are set where no timer had changed since
pub sets_after : (now : ℕ) (arms arms' : List Arm) (a b c : AskContent) → AskStays a b → arms ≡ arms' → AskAdds (sets now arms) b c → AskAdds (sets now arms') a c
sets_after now arms arms' a b c stays is adds =
    subst (λ arms. AskAdds (sets now arms) a c) is (record { each = λ c1 c2 calls h. adds.each c1 c2 calls (stays.each c1 c2 calls h) })

-- the same where the timers are as they were
pub sets_then : (now : ℕ) (arms arms' : List Arm) (a b c : AskContent) → b.c1 ≡ a.c1 → b.c2 ≡ a.c2 → b.timers ≡ a.timers → arms ≡ arms' → AskAdds (sets now arms) b c → AskAdds (sets now arms') a c
sets_then now arms arms' a b c p q same is adds = sets_after now arms arms' a b c (stays_kept a b p q (subst (KeepsValues a.timers) (sym same) (keeps_self a.timers))) is adds

-- the list in which names that are due are looked up has no part in what fits
fits_as : (c1 c2 : ℕ) (calls : List AskCall) (a b : AskContent) → b.c1 ≡ a.c1 → b.c2 ≡ a.c2 → b.timers ≡ a.timers → AskFits c1 c2 calls a → AskFits c1 c2 calls b
fits_as c1 c2 calls a b p q same h = record { c1_is = p ∙ h.c1_is; c2_is = q ∙ h.c2_is; timers = λ n. ap (λ ps. value_at ps n) same ∙ h.timers n }

pub stays_between : (a b c d : AskContent) → b.c1 ≡ a.c1 → b.c2 ≡ a.c2 → b.timers ≡ a.timers → AskStays b c → d.c1 ≡ c.c1 → d.c2 ≡ c.c2 → d.timers ≡ c.timers → AskStays a d
stays_between a b c d p q same stays p' q' same' = record { each = λ c1 c2 calls h. fits_as c1 c2 calls c d p' q' same' (stays.each c1 c2 calls (fits_as c1 c2 calls a b p q same h)) }

pub adds_between : (more : List AskCall) (a b c d : AskContent) → b.c1 ≡ a.c1 → b.c2 ≡ a.c2 → b.timers ≡ a.timers → AskAdds more b c → d.c1 ≡ c.c1 → d.c2 ≡ c.c2 → d.timers ≡ c.timers → AskAdds more a d
adds_between more a b c d p q same adds p' q' same' = record { each = λ c1 c2 calls h. fits_as c1 c2 (calls ++ more) c d p' q' same' (adds.each c1 c2 calls (fits_as c1 c2 calls a b p q same h)) }

pub due_is : (now : ℕ) (a : AskContent) (names : List FullName) → ((n : FullName) → value_at a.expiries.places n ≡ option_map runs_out_at (value_at a.timers n))
    → AreExactly (λ n. has_come now (value_at a.expiries.places n)) names → AskDue now a names
due_is now a names right due = record {
  each = λ c1 c2 calls h. due_ran_out now a.expiries.places (ask_timer calls) names (λ n. right n ∙ ap (option_map runs_out_at) (h.timers n)) due;
}

-- the names whose timers ran out, armed again
pub asked_again : (now : ℕ) (dist : List ℕ) (a : AskContent) (names : List FullName) (arms : List Arm) → AskDue now a names → map plan_of arms ≡ map (again_plan dist (value_at a.timers)) names → ArmsSetAgain now dist a arms
asked_again now dist a names arms due plans = record {
  each = λ c1 c2 calls h.
      let exact = due.each c1 c2 calls h in
      planned_are (again_plan dist (value_at a.timers)) (due_basis now dist (ask_timer calls)) names arms (λ n. refl) exact.in_order plans
      (λ n. again_due now dist (value_at a.timers) (ask_timer calls) n (among names n) (exact.exact n ∙ ap (ran_out now) (sym (h.timers n))) (h.timers n));
}

pub found_are : (dist : List ℕ) (names asked : List FullName) (arms : List Arm) → ascending name_below names ≡ true → map plan_of arms ≡ map (found_plan asked dist) names
    → ArmsOfFound names asked dist arms
found_are dist names asked arms rising plans = record { are = planned_are (found_plan asked dist) (found_basis names asked dist) names arms (λ n. refl) rising plans (λ n. refl) }

pub found_rise : (dist : List ℕ) (names asked : List FullName) (arms arms' : List Arm) → map plan_of arms ≡ map (found_plan asked dist) names → arms' ≡ arms
    → ascending name_below names ≡ true → ascending name_below (arm_names arms') ≡ true
found_rise dist names asked arms arms' plans is rising = ap (λ list. ascending name_below (arm_names list)) is ∙ ap (ascending name_below) (planned_names (found_plan asked dist) (λ n. refl) names arms plans) ∙ rising

pub found_ready : (dist : List ℕ) (names asked : List FullName) (arms arms' : List Arm) (a b : AskContent) (list : ℕ) → map plan_of arms ≡ map (found_plan asked dist) names → arms' ≡ arms
    → AskReady names a → b ≡ record a { detect_room = list } → AskReady (arm_names arms') b
found_ready dist names asked arms arms' a b list plans is ready same =
    subst (λ ns. AskReady ns b) (sym (ap arm_names is ∙ planned_names (found_plan asked dist) (λ n. refl) names arms plans)) (subst (AskReady names) (sym same) (ready_still names a list ready))

pub again_rise : (dist : List ℕ) (timer : FullName → Option Armed) (names : List FullName) (arms arms' : List Arm) → map plan_of arms ≡ map (again_plan dist timer) names → arms' ≡ arms
    → ascending name_below names ≡ true → ascending name_below (arm_names arms') ≡ true
again_rise dist timer names arms arms' plans is rising = ap (λ list. ascending name_below (arm_names list)) is ∙ ap (ascending name_below) (planned_names (again_plan dist timer) (λ n. refl) names arms plans) ∙ rising

pub backs_off_is : (name : FullName) (now : ℕ) (a : AskContent) (exponent : Option ℕ) → exponent ≡ backs_off now (value_at a.timers name) → AskExponentWhenHeard name now a exponent
backs_off_is name now a exponent is = record { each = λ c1 c2 calls h. is ∙ ap (backs_off now) (h.timers name) }

pub runs_is : (name : FullName) (a : AskContent) (exponent : Option ℕ) → exponent ≡ option_map next_exponent (value_at a.timers name) → AskExponentWhenDue name a exponent
runs_is name a exponent is = record { each = λ c1 c2 calls h. is ∙ ap (option_map next_exponent) (h.timers name) }

pub next_is : (a : AskContent) (moment : Option ℕ) → ((n : FullName) → value_at a.expiries.places n ≡ option_map runs_out_at (value_at a.timers n)) → IsLeast a.expiries.places moment → AskNext a moment
next_is a moment right least = record {
  each = λ c1 c2 calls h. first_end a.expiries.places (ask_timer calls) moment (λ n. right n ∙ ap (option_map runs_out_at) (h.timers n)) least;
}
