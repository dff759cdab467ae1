-- Ticks at which nothing happens, and a bucket in which now and then one datagram waits: for examples of runs.
use Rattle.std.proofs.Common.{◌≡◌, ℕ, ◌==◌, ◌+◌, ◌-◌, ◌≤◌, ◌<◌, Bool, true, false, not, ◌&&◌, ◌||◌, List, [], ◌∷◌, ◌++◌, length, map, refl, ap, sym, ◌∙◌, subst, arith, inl, inr, append_assoc, eq-eqb, lit≤}
use Rattle.std.specs.Prelude.{◌⊎◌, Option, Some, None, unwrap_or, option_map, option_to_list, find, nat_le, nat_lt, drop, if◌then◌else◌, IfSome}
use Rattle.std.specs.List.{flat_map, filter_map, cons_option, AllByRecursion}
use Rattle.std.proofs.lemmas.Bool.{cases_lt, and_parts, leb-true, ltb-true, eqb-true}
use Rattle.std.proofs.lemmas.Bool.Decides.{nat_tests}
use Rattle.std.proofs.lemmas.List.{append-nil}
use Rattle.std.proofs.lemmas.Grind.{flat_map-append}
use Rattle.srm_names.specs.FullName.{FullName}
use Rattle.srm_names.specs.Histories.{Step, steps, steps_after, last_of, first_best, or_else}
use Rattle.srm_names.specs.Names.{first_page, same_name}
use Rattle.srm_names.proofs.Lists.{Has, Has-front, Has-back, Has-passes, Has-contained, map-Has, flat_map-Has, find-Has, All-Has}
use Rattle.srm_names.proofs.Snoc.{steps-snoc, last_of-snoc}
use Rattle.srm_codec.specs.declared.datagram.Datagram.{Datagram}
use Rattle.srm_codec.specs.Spelling.{is_session}
use Rattle.srm_distance.specs.declared.returned.Returned.{Returned}
use Rattle.srm_distance.specs.Calls.{DistanceCall}
use Rattle.srm_distance.specs.Distance.{returned, estimate}
use Rattle.srm_timers.specs.declared.arm.Arm.{Arm}
use Rattle.srm_timers.specs.declared.arm.ArmKind.{ArmKind}
use Rattle.srm_timers.specs.Arms.{same_kind}
use Rattle.srm_bucket.specs.declared.class.Class.{Class}
use Rattle.srm_bucket.specs.declared.class.Class.TheVariants.{Shown, New, Other}
use Rattle.srm_bucket.specs.declared.item.Item.{Item}
use Rattle.srm_bucket.specs.Calls.{Classed, BucketCall, Handed, Popped}
use Rattle.srm_bucket.specs.Classes.{rank, in_class, departed, departed_in, handed, handed_in, next_queued}
use Rattle.srm_bucket.specs.Ticks.{Tick, last_moment as last_of_calls, ticks as ticks_in, cost, charge, allowance, IsWithin}
use Rattle.srm_bucket.specs.Law.{BucketLaw, GoesRight as CallRight, level_at}
use Rattle.srm_entries.specs.Configs.{Config}
use Rattle.srm_entries.specs.declared.entry.Entry.{Entry}
use Rattle.srm_entries.specs.declared.state.AgentState.TheVariants.{Active}
use Rattle.srm_entries.specs.declared.entry.Input.TheVariants.{Ticked}
use Rattle.srm_entries.specs.declared.limits.TheConstants.{SHORTEST_INTERVAL}
use Rattle.srm_entries.specs.Entries.{done, accepted, ticked, page_shown, shown, state, is_gone, is_leaving, is_missing, last_moment}
use Rattle.srm_entries.specs.Distances.{distance, distance_calls, calls_in}
use Rattle.srm_entries.specs.Timers.{fix_running}
use Rattle.srm_entries.specs.Sessions.{session_interval, session_due_after, session_due, all_data_sent, session_message_due, EndsWith}
use Rattle.srm_entries.specs.Bucket.{Going, idle, GoesAsCharged}
use Rattle.srm_entries.specs.Runs.{EntryRight}
use Rattle.srm_entries.proofs.Adding.{fix_running-snoc}
use Rattle.srm_entries.proofs.Arming.{arm_found}
use Rattle.srm_entries.proofs.Plain.{plain, idle_right, right}
use Rattle.srm_entries.proofs.Quiet.{same_missing}
use Rattle.srm_entries.proofs.Running.{steps_more}
use Rattle.srm_entries.proofs.Showing.{state-snoc}
use Rattle.srm_entries.proofs.Spending.{tick_is_last}
use Rattle.srm_world.specs.Traces.{Trace, of_member}
use Rattle.srm_recovery.specs.Timing.{Timing, time_of}
use Rattle.srm_recovery.specs.Members.{EntryWithin, SendsWithin, WaitsAtMost, EmptiesWithin, nothing_waits}
use Rattle.srm_recovery.specs.Network.{Arrival, Carries, ComesToBoth}
use Rattle.srm_recovery.specs.Hearing.{HearsWithin}
use Rattle.srm_recovery.proofs.Ordering.{head_same, tail_same, last_more}

-- ticks at which nothing happens

abbrev pub rests : ℕ → ℕ → Entry
rests m now = plain m now Ticked None [] None Active

abbrev pub resting : ℕ → List ℕ → List Entry
resting m [] = []
resting m (u ∷ us) = rests m u ∷ resting m us

-- a member has nothing to do before its next session message
pub record IsAtRest (c : Config) (made due : ℕ) (before : List Entry) : Type 0 where
  pub missing : (n : FullName) → is_missing before n ≡ false
  pub fixing : (n : FullName) → fix_running before n ≡ None
  pub active : state before ≡ Active
  pub due_is : session_due c made before ≡ due

-- moments from one on, each before another
abbrev pub Climbs : ℕ → ℕ → List ℕ → Type 0
Climbs low due [] = Unit {0}
Climbs low due (u ∷ us) = (low ≤ u) × (u < due) × Climbs u due us

not_due : (a b c : ℕ) → a ≡ b → c < b → nat_le a c ≡ false
not_due a b c q l = grind (arith, nat_tests)

none_sent : (c : Config) (made due : ℕ) (before : List Entry) (u : ℕ) → IsAtRest c made due before → u < due → session_message_due c made before (rests c.me u) ≡ None
none_sent c made due before u r l =
    ap (λ s. if is_gone s then None else if is_leaving s && all_data_sent (before ++ rests c.me u ∷ []) then Some true else if nat_le (session_due c made before) u then Some false else None) r.active
    ∙ ap (λ b. if b then Some false else None) (not_due (session_due c made before) due u r.due_is l)

next_missing : (c : Config) (made due : ℕ) (before : List Entry) (u : ℕ) → IsAtRest c made due before → (n : FullName) → is_missing (before ++ rests c.me u ∷ []) n ≡ false
next_missing c made due before u r n = same_missing before (rests c.me u) n (refl, refl) ∙ r.missing n

rests_right : (c : Config) (made due : ℕ) (before : List Entry) (u : ℕ) → IsAtRest c made due before → last_moment made before ≤ u → u < due → EntryRight c made (record { before = before; this = rests c.me u })
rests_right c made due before u r low l =
    right c made before c.me u Ticked None [] None Active r.missing (next_missing c made due before u r) (λ n. refl) r.fixing refl low refl refl tt tt tt
    (subst (EndsWith c before (rests c.me u)) (sym (none_sent c made due before u r l)) refl) refl (sym r.active)

next_rest : (c : Config) (made due : ℕ) (before : List Entry) (u : ℕ) → IsAtRest c made due before → IsAtRest c made due (before ++ rests c.me u ∷ [])
next_rest c made due before u r = record {
  missing = next_missing c made due before u r;
  fixing = λ n. fix_running-snoc before (rests c.me u) n ∙ r.fixing n;
  active = state-snoc before (rests c.me u);
  due_is = ap (λ o. unwrap_or o (made + SHORTEST_INTERVAL)) (ap (last_of (session_due_after c)) (steps-snoc before (rests c.me u)) ∙ last_of-snoc (session_due_after c) (steps before) (record { before = before; this = rests c.me u })) ∙ r.due_is;
}

pub resting_right : (c : Config) (made due : ℕ) (before : List Entry) (us : List ℕ) → IsAtRest c made due before → Climbs (last_moment made before) due us → AllByRecursion (EntryRight c made) (steps_after before (resting c.me us))
resting_right c made due before [] r climbs = tt
resting_right c made due before (u ∷ us) r climbs =
    let here = rests_right c made due before u r climbs.0 climbs.1 in
    (here, resting_right c made due (before ++ rests c.me u ∷ []) us (next_rest c made due before u r) (subst (λ low. Climbs low due us) (sym (tick_is_last c made before (rests c.me u) here refl)) climbs.2))

pub resting_charged : (m : ℕ) (before : List Going) (us : List ℕ) → AllByRecursion GoesAsCharged (steps_after before (map idle (resting m us)))
resting_charged m before [] = tt
resting_charged m before (u ∷ us) = (idle_right refl, resting_charged m (before ++ idle (rests m u) ∷ []) us)

-- pops that let nothing go, where nothing waits

unfoldable pub within_test : ℕ → ℕ → ℕ → List Tick → Bool
within_test rate depth now [] = true
within_test rate depth now (t ∷ ts) = nat_le t.moment now && (nat_le (charge (t ∷ ts)) (allowance rate depth t.moment now) && within_test rate depth now ts)

within_tested : (rate depth now : ℕ) (ts : List Tick) → within_test rate depth now ts ≡ true → IsWithin rate depth now ts
unfolding within_test
within_tested rate depth now [] e = tt
within_tested rate depth now (t ∷ ts) e =
    let p = and_parts (nat_le t.moment now) (nat_le (charge (t ∷ ts)) (allowance rate depth t.moment now) && within_test rate depth now ts) e in
    let q = and_parts (nat_le (charge (t ∷ ts)) (allowance rate depth t.moment now)) (within_test rate depth now ts) p.1 in
    (leb-true t.moment now p.0, leb-true (charge (t ∷ ts)) (allowance rate depth t.moment now) q.0, within_tested rate depth now ts q.1)

abbrev pub pop : ℕ → BucketCall Datagram
pop u = Popped u None

abbrev pub Withins : ℕ → ℕ → List (BucketCall Datagram) → List ℕ → Type 0
Withins rate depth calls [] = Unit {0}
Withins rate depth calls (u ∷ us) = (within_test rate depth (last_of_calls (calls ++ pop u ∷ [])) (ticks_in (calls ++ pop u ∷ [])) ≡ true) × Withins rate depth (calls ++ pop u ∷ []) us

pub same_gone : (calls : List (BucketCall Datagram)) (u : ℕ) (class : Class) → departed class calls ≡ handed class calls → departed class (calls ++ pop u ∷ []) ≡ handed class (calls ++ pop u ∷ [])
same_gone calls u class e = flat_map-append (departed_in class) calls (pop u ∷ []) ∙ ap (λ w. w ++ []) e ∙ sym (flat_map-append (handed_in class) calls (pop u ∷ []))

drop_all : {X : Type 0} (xs : List X) → drop (length xs) xs ≡ []
drop_all [] = refl
drop_all (x ∷ xs) = drop_all xs

none_next : (calls : List (BucketCall Datagram)) → ((class : Class) → departed class calls ≡ handed class calls) → next_queued calls ≡ None
none_next calls gone = rw (gone Shown, gone New, gone Other, drop_all (handed Shown calls), drop_all (handed New calls), drop_all (handed Other calls)) refl

pub pops_law : (rate depth : ℕ) (calls : List (BucketCall Datagram)) (us : List ℕ) → ((class : Class) → departed class calls ≡ handed class calls) → BucketLaw rate depth calls → Withins rate depth calls us → BucketLaw rate depth (calls ++ map pop us)
pops_law rate depth calls [] gone law within = subst (BucketLaw rate depth) (sym (append-nil calls)) law
pops_law rate depth calls (u ∷ us) gone law within =
    subst (BucketLaw rate depth) (append_assoc calls (pop u ∷ []) (map pop us))
    (pops_law rate depth (calls ++ pop u ∷ []) us (λ class. same_gone calls u class (gone class))
    (steps_more (λ s. CallRight rate depth s.before (s.before ++ s.this ∷ []) s.this) calls (pop u) law here) within.1)
  where
    here : CallRight rate depth calls (calls ++ pop u ∷ []) (pop u)
    here = record {
      in_order = λ class. ([], append-nil (departed class (calls ++ pop u ∷ [])) ∙ same_gone calls u class (gone class));
      highest_first = tt;
      not_too_much = within_tested rate depth (last_of_calls (calls ++ pop u ∷ [])) (ticks_in (calls ++ pop u ∷ [])) within.0;
      all_that_may = subst (λ (o : Option (Classed Datagram)). IfSome o (λ c. level_at rate depth (calls ++ pop u ∷ []) (last_of_calls (calls ++ pop u ∷ [])) < cost (Some c))) (sym (none_next (calls ++ pop u ∷ []) (λ class. same_gone calls u class (gone class)))) tt;
    }

-- one item that is handed in where nothing waits, and goes

abbrev pub one_more : ℕ → Class → Item Datagram → List (BucketCall Datagram)
one_more u k item = Handed (record { class = k; item = item }) ∷ Popped u (Some (record { class = k; item = item })) ∷ Popped u None ∷ []

pub one_more_gone : (calls : List (BucketCall Datagram)) (u : ℕ) (k : Class) (item : Item Datagram) (class : Class) → departed class calls ≡ handed class calls → departed class (calls ++ one_more u k item) ≡ handed class (calls ++ one_more u k item)
one_more_gone calls u k item class e =
    flat_map-append (departed_in class) calls (one_more u k item) ∙ ap (λ w. w ++ (in_class class (Some (record { class = k; item = item })) ++ [])) e ∙ sym (flat_map-append (handed_in class) calls (one_more u k item))

pub one_more_law : (rate depth : ℕ) (calls : List (BucketCall Datagram)) (u : ℕ) (k : Class) (item : Item Datagram) → ((class : Class) → departed class calls ≡ handed class calls) → BucketLaw rate depth calls
    → within_test rate depth (last_of_calls (calls ++ Handed (record { class = k; item = item }) ∷ [])) (ticks_in (calls ++ Handed (record { class = k; item = item }) ∷ [])) ≡ true
    → within_test rate depth (last_of_calls (calls ++ Handed (record { class = k; item = item }) ∷ Popped u (Some (record { class = k; item = item })) ∷ []))
    (ticks_in (calls ++ Handed (record { class = k; item = item }) ∷ Popped u (Some (record { class = k; item = item })) ∷ [])) ≡ true
    → within_test rate depth (last_of_calls (calls ++ one_more u k item)) (ticks_in (calls ++ one_more u k item)) ≡ true → BucketLaw rate depth (calls ++ one_more u k item)
one_more_law rate depth calls u k item gone law w1 w2 w3 =
    subst (BucketLaw rate depth) (append_assoc (calls ++ h ∷ []) (p ∷ []) (e ∷ []) ∙ append_assoc calls (h ∷ []) (p ∷ e ∷ [])) (more ((calls ++ h ∷ []) ++ p ∷ []) e (more (calls ++ h ∷ []) p (more calls h law here) goes) ends)
  where
    i : Classed Datagram
    i = record { class = k; item = item }

    h : BucketCall Datagram
    h = Handed i

    p : BucketCall Datagram
    p = Popped u (Some i)

    e : BucketCall Datagram
    e = Popped u None

    more : (before : List (BucketCall Datagram)) (call : BucketCall Datagram) → BucketLaw rate depth before → CallRight rate depth before (before ++ call ∷ []) call → BucketLaw rate depth (before ++ call ∷ [])
    more before call l r = steps_more (λ s. CallRight rate depth s.before (s.before ++ s.this ∷ []) s.this) before call l r

    departed_then : (class : Class) (call : BucketCall Datagram) (before : List (BucketCall Datagram)) → departed class (before ++ call ∷ []) ≡ departed class before ++ (departed_in class call ++ [])
    departed_then class call before = flat_map-append (departed_in class) before (call ∷ [])

    handed_then : (class : Class) (call : BucketCall Datagram) (before : List (BucketCall Datagram)) → handed class (before ++ call ∷ []) ≡ handed class before ++ (handed_in class call ++ [])
    handed_then class call before = flat_map-append (handed_in class) before (call ∷ [])

    -- what is handed in waits
    departed_1 : (class : Class) → departed class (calls ++ h ∷ []) ≡ handed class calls
    departed_1 class = departed_then class h calls ∙ append-nil (departed class calls) ∙ gone class

    here : CallRight rate depth calls (calls ++ h ∷ []) h
    here = record {
      in_order = λ class. (in_class class (Some i) ++ [], ap (λ w. w ++ (in_class class (Some i) ++ [])) (departed_1 class) ∙ sym (handed_then class h calls));
      highest_first = tt;
      not_too_much = within_tested rate depth (last_of_calls (calls ++ h ∷ [])) (ticks_in (calls ++ h ∷ [])) w1;
      all_that_may = tt;
    }

    -- and then goes
    gone_2 : (class : Class) → departed class ((calls ++ h ∷ []) ++ p ∷ []) ≡ handed class ((calls ++ h ∷ []) ++ p ∷ [])
    gone_2 class = departed_then class p (calls ++ h ∷ []) ∙ ap (λ w. w ++ (in_class class (Some i) ++ [])) (departed_1 class) ∙ sym (handed_then class h calls) ∙ sym (append-nil (handed class (calls ++ h ∷ []))) ∙ sym (handed_then class p (calls ++ h ∷ []))

    not_same : (a b : ℕ) → a < b → (b == a) ≡ false
    not_same a b l = grind (arith, nat_tests)

    none_above : (class : Class) → rank class < rank i.class → departed class (calls ++ h ∷ []) ≡ handed class (calls ++ h ∷ [])
    none_above class l =
        departed_1 class ∙ sym (append-nil (handed class calls)) ∙ ap (λ b. handed class calls ++ ((if b then item ∷ [] else []) ++ [])) (sym (not_same (rank class) (rank k) l)) ∙ sym (handed_then class h calls)

    goes : CallRight rate depth (calls ++ h ∷ []) ((calls ++ h ∷ []) ++ p ∷ []) p
    goes = record {
      in_order = λ class. ([], append-nil (departed class ((calls ++ h ∷ []) ++ p ∷ [])) ∙ gone_2 class);
      highest_first = none_above;
      not_too_much = subst (λ cs. IsWithin rate depth (last_of_calls cs) (ticks_in cs)) (sym (append_assoc calls (h ∷ []) (p ∷ []))) (within_tested rate depth (last_of_calls (calls ++ h ∷ p ∷ [])) (ticks_in (calls ++ h ∷ p ∷ [])) w2);
      all_that_may = tt;
    }

    ends : CallRight rate depth ((calls ++ h ∷ []) ++ p ∷ []) (((calls ++ h ∷ []) ++ p ∷ []) ++ e ∷ []) e
    ends = record {
      in_order = λ class. ([], append-nil (departed class (((calls ++ h ∷ []) ++ p ∷ []) ++ e ∷ [])) ∙ same_gone ((calls ++ h ∷ []) ++ p ∷ []) u class (gone_2 class));
      highest_first = tt;
      not_too_much = subst (λ cs. IsWithin rate depth (last_of_calls cs) (ticks_in cs)) (sym (append_assoc (calls ++ h ∷ []) (p ∷ []) (e ∷ []) ∙ append_assoc calls (h ∷ []) (p ∷ e ∷ []))) (within_tested rate depth (last_of_calls (calls ++ one_more u k item)) (ticks_in (calls ++ one_more u k item)) w3);
      all_that_may = subst (λ (o : Option (Classed Datagram)). IfSome o (λ c. level_at rate depth (((calls ++ h ∷ []) ++ p ∷ []) ++ e ∷ []) (last_of_calls (((calls ++ h ∷ []) ++ p ∷ []) ++ e ∷ [])) < cost (Some c)))
          (sym (none_next (((calls ++ h ∷ []) ++ p ∷ []) ++ e ∷ []) (λ class. same_gone ((calls ++ h ∷ []) ++ p ∷ []) u class (gone_2 class)))) tt;
    }

-- a tick that leaves nothing waiting, in each time of a length

unfoldable pub covers : ℕ → ℕ → ℕ → ℕ → List Entry → List Entry → Bool
covers m length to last past [] = nat_lt to (last + length)
covers m length to last past (e ∷ es) =
    if ticked e && nothing_waits m (past ++ e ∷ []) then nat_le e.moment (last + length) && covers m length to e.moment (past ++ e ∷ []) es
    else covers m length to last (past ++ e ∷ []) es

pub emptied : (t : Trace) (p : Timing) (m length to last : ℕ) (past rest : List Entry) → of_member m t.entries ≡ past ++ rest → covers m length to last past rest ≡ true
    → (now : ℕ) → p.clock m + last ≤ now → now + length ≤ p.clock m + to → EmptiesWithin t p m (now + 1) (now + length)
unfolding covers
emptied t p m length to last past [] q c now l u = let k : to < last + length = ltb-true to (last + length) c in absurd (omega arith)
emptied t p m length to last past (e ∷ rest) q c now l u =
    go (ticked e && nothing_waits m (past ++ e ∷ [])) refl c (λ from f k. emptied t p m length to from (past ++ e ∷ []) rest (q ∙ sym (append_assoc past (e ∷ []) rest)) k now f u)
  where
    go : (b : Bool) → (ticked e && nothing_waits m (past ++ e ∷ [])) ≡ b
        → (if b then nat_le e.moment (last + length) && covers m length to e.moment (past ++ e ∷ []) rest else covers m length to last (past ++ e ∷ []) rest) ≡ true
        → ((from : ℕ) → p.clock m + from ≤ now → covers m length to from (past ++ e ∷ []) rest ≡ true → EmptiesWithin t p m (now + 1) (now + length))
        → EmptiesWithin t p m (now + 1) (now + length)
    go false tk k further = further last l k
    go true tk k further =
        let both = and_parts (nat_le e.moment (last + length)) (covers m length to e.moment (past ++ e ∷ []) rest) k in
        elim (cases_lt now (p.clock m + e.moment)) [
          | inl less ↦ (let close : e.moment ≤ last + length = leb-true e.moment (last + length) both.0 in
              let parts = and_parts (ticked e) (nothing_waits m (past ++ e ∷ [])) tk in
              (record { before = past; this = e; after = rest; split = q; not_before = omega arith; not_after = omega arith }, parts.0, parts.1))
          | inr more ↦ further e.moment more both.1
        ]

-- a member that rests stays at rest
pub rested : (c : Config) (made due : ℕ) (before : List Entry) (us : List ℕ) → IsAtRest c made due before → IsAtRest c made due (before ++ resting c.me us)
rested c made due before [] r = subst (IsAtRest c made due) (sym (append-nil before)) r
rested c made due before (u ∷ us) r = subst (IsAtRest c made due) (append_assoc before (rests c.me u ∷ []) (resting c.me us)) (rested c made due (before ++ rests c.me u ∷ []) us (next_rest c made due before u r))

-- What the entries of a trace send, accept and set: each is looked at once.

pub record Parcel : Type 0 where
  pub entry : Entry
  pub datagram : Datagram

abbrev pub parcel : Entry → Datagram → Parcel
parcel e g = record { entry = e; datagram = g }

abbrev pub sent_in : List Entry → List Parcel
sent_in es = flat_map (λ (e : Entry). map (parcel e) e.effects.outs) es

abbrev pub came_in : List Entry → List Parcel
came_in es = flat_map (λ (e : Entry). map (parcel e) (option_to_list (accepted e))) es

abbrev pub arms_in : List Entry → List Arm
arms_in es = flat_map (λ (e : Entry). e.effects.arms) es

pub entry_of : (t : Trace) (p : Timing) (m from to : ℕ) (h : EntryWithin t p m from to) → Has h.this t.entries × (h.this.member ≡ m)
entry_of t p m from to h =
    let k = Has-passes (λ (e : Entry). e.member == m) h.this t.entries (subst (λ w. Has h.this w) (sym h.split) (Has-back h.this h.before (h.this ∷ h.after) (inl refl))) in
    (k.0, eqb-true h.this.member m k.1)

-- of another kind, of another member, or at another time
abbrev pub excluded : Timing → (Datagram → Bool) → ℕ → ℕ → ℕ → Parcel → Bool
excluded p kind m from to s = not (kind s.datagram) || (not (s.entry.member == m) || (nat_lt (p.clock m + s.entry.moment) from || nat_lt to (p.clock m + s.entry.moment)))

not_excluded : (p : Timing) (kind : Datagram → Bool) (m from to : ℕ) (s : Parcel) → kind s.datagram ≡ true → s.entry.member ≡ m → from ≤ p.clock m + s.entry.moment → p.clock m + s.entry.moment ≤ to
    → excluded p kind m from to s ≡ true → ⊥
not_excluded p kind m from to s is me low high ex =
    go (kind s.datagram) (s.entry.member == m) (nat_lt (p.clock m + s.entry.moment) from) (nat_lt to (p.clock m + s.entry.moment)) is (eq-eqb s.entry.member m me)
    (not_below (p.clock m + s.entry.moment) from low) (not_below to (p.clock m + s.entry.moment) high) ex
  where
    not_below : (a b : ℕ) → b ≤ a → nat_lt a b ≡ false
    not_below a b l = grind (arith, nat_tests)

    go : (a b x y : Bool) → a ≡ true → b ≡ true → x ≡ false → y ≡ false → (not a || (not b || (x || y))) ≡ true → ⊥
    go true true false false p q r s e = absurd (cc)
    go false b x y p q r s e = absurd (cc)
    go true false x y p q r s e = absurd (cc)
    go true true true y p q r s e = absurd (cc)
    go true true false true p q r s e = absurd (cc)

-- a parcel of a member arrives in time at another one
abbrev pub ArrivesInTime : Trace → Timing → ℕ → ℕ → Parcel → Type 0
ArrivesInTime t p m k s = HearsWithin t p k s.datagram (time_of p m s.entry) (time_of p m s.entry + p.delay)

pub all_carried : (t : Trace) (p : Timing) (kind : Datagram → Bool) (m k from to : ℕ)
    → AllByRecursion (λ (s : Parcel). (excluded p kind m from to s ≡ true) ⊎ ArrivesInTime t p m k s) (sent_in t.entries) → Carries (HearsWithin t p) t p kind m k from to
all_carried t p kind m k from to all h g is has limit =
    let (there, me) = entry_of t p m from to h in
    elim (All-Has (λ (s : Parcel). (excluded p kind m from to s ≡ true) ⊎ ArrivesInTime t p m k s) (parcel h.this g) (sent_in t.entries) all
    (flat_map-Has (λ (e : Entry). map (parcel e) e.effects.outs) (parcel h.this g) h.this t.entries there (map-Has (parcel h.this) g h.this.effects.outs (Has-contained g h.this.effects.outs has)))) [
      | inl ex ↦ absurd (not_excluded p kind m from to (parcel h.this g) is me h.not_before h.not_after ex)
      | inr hears ↦ hears
    ]

came_has : (es : List Entry) (e : Entry) (g : Datagram) → Has e es → accepted e ≡ Some g → Has (parcel e g) (came_in es)
came_has es e g h q = flat_map-Has (λ (x : Entry). map (parcel x) (option_to_list (accepted x))) (parcel e g) e es h (subst (λ o. Has (parcel e g) (map (parcel e) (option_to_list o))) (sym q) (inl refl))

pub none_comes : (arrives : Arrival) (t : Trace) (p : Timing) (kind : Datagram → Bool) (m k from to : ℕ) → AllByRecursion (λ (s : Parcel). excluded p kind m (from + p.delay) to s ≡ true) (came_in t.entries)
    → ComesToBoth arrives t p kind m k from to
none_comes arrives t p kind m k from to all h g is q limit =
    let (there, me) = entry_of t p m (from + p.delay) to h in
    absurd (not_excluded p kind m (from + p.delay) to (parcel h.this g) is me h.not_before h.not_after
    (All-Has (λ (s : Parcel). excluded p kind m (from + p.delay) to s ≡ true) (parcel h.this g) (came_in t.entries) all (came_has t.entries h.this g there q)))

-- one of some members sent the parcel that a member gets, in time
abbrev pub IsFresh : Trace → Timing → (ℕ → Bool) → ℕ → Parcel → Type 0
IsFresh t p among m s = (k : ℕ) × (among k ≡ true) × SendsWithin t p k s.datagram (time_of p m s.entry - p.delay) (time_of p m s.entry)

pub all_fresh : (t : Trace) (p : Timing) (among : ℕ → Bool) (m from to : ℕ)
    → AllByRecursion (λ (s : Parcel). (excluded p (λ g. true) m (from + p.delay) to s ≡ true) ⊎ IsFresh t p among m s) (came_in t.entries)
    → (h : EntryWithin t p m (from + p.delay) to) (g : Datagram) → accepted h.this ≡ Some g → IsFresh t p among m (parcel h.this g)
all_fresh t p among m from to all h g q =
    let (there, me) = entry_of t p m (from + p.delay) to h in
    elim (All-Has (λ (s : Parcel). (excluded p (λ g. true) m (from + p.delay) to s ≡ true) ⊎ IsFresh t p among m s) (parcel h.this g) (came_in t.entries) all
    (came_has t.entries h.this g there q)) [
      | inl ex ↦ absurd (not_excluded p (λ g. true) m (from + p.delay) to (parcel h.this g) refl me h.not_before h.not_after ex)
      | inr sends ↦ sends
    ]

pub none_waits : (t : Trace) (p : Timing) (kind : ArmKind) (m to : ℕ) (n : FullName) → AllByRecursion (λ (a : Arm). a.wait ≡ 0) (arms_in t.entries) → WaitsAtMost t p kind m n to 0
none_waits t p kind m to n all h a q =
    let (there, me) = entry_of t p m 0 to h in
    let found = find-Has (λ (x : Arm). same_kind kind x.kind && same_name n x.name) h.this.effects.arms a.arm (arm_found kind n h.this a q).0 in
    let none : a.arm.wait ≡ 0 = All-Has (λ (x : Arm). x.wait ≡ 0) a.arm (arms_in t.entries) all (flat_map-Has (λ (e : Entry). e.effects.arms) a.arm h.this t.entries there found.0) in
    omega (arith, none)

-- a test that each entry passes
abbrev pub all_pass : (Entry → Bool) → List Entry → Bool
all_pass p [] = true
all_pass p (e ∷ es) = p e && all_pass p es

pub passed : (p : Entry → Bool) (es : List Entry) → all_pass p es ≡ true → (e : Entry) → Has e es → p e ≡ true
passed p [] q e h = absurd h
passed p (x ∷ es) q e (inl same) = ap p same ∙ (and_parts (p x) (all_pass p es) q).0
passed p (x ∷ es) q e (inr h) = passed p es (and_parts (p x) (all_pass p es) q).1 e h

-- a page that is never turned
pub unturned : (es : List Entry) → ((e : Entry) → Has e es → page_shown (done e) ≡ None) → shown es ≡ first_page
unturned es all = ap (λ o. unwrap_or o first_page) (never es all)
  where
    never : (es : List Entry) → ((e : Entry) → Has e es → page_shown (done e) ≡ None) → last_of (λ (e : Entry). page_shown (done e)) es ≡ None
    never [] all = refl
    never (e ∷ es) all = ap (λ o. or_else o (page_shown (done e))) (never es (λ x h. all x (inr h))) ∙ all e (inl refl)

-- distances that nobody measured
pub none_returned : (b : ℕ) (calls : List DistanceCall) → ((c : DistanceCall) → Has c calls → returned b c ≡ None) → filter_map (returned b) calls ≡ []
none_returned b [] all = refl
none_returned b (c ∷ calls) all = ap (λ o. cons_option o (filter_map (returned b) calls)) (all c (inl refl)) ∙ none_returned b calls (λ x h. all x (inr h))

pub unmeasured : (c : Config) (es : List Entry) → c.least_distance ≡ 1 → AllByRecursion (λ (k : DistanceCall). (b : ℕ) → returned b k ≡ None) (distance_calls c.me es) → (before after : List Entry) (b : ℕ) → es ≡ before ++ after → distance c before b ≤ 100000
unmeasured c es least all before after b q =
    subst (λ rs. (if b == c.me then 0 else estimate c.least_distance (first_best (λ (r : Returned). r.t1) rs)) ≤ 100000) (sym (none_returned b (distance_calls c.me before) each))
    (subst (λ l. (if b == c.me then 0 else estimate l None) ≤ 100000) (sym least) (which (b == c.me)))
  where
    each : (k : DistanceCall) → Has k (distance_calls c.me before) → returned b k ≡ None
    each k h = All-Has (λ (k : DistanceCall). (b : ℕ) → returned b k ≡ None) k (distance_calls c.me es) all
        (subst (λ w. Has k w) (sym (ap (distance_calls c.me) q ∙ flat_map-append (calls_in c.me) before after)) (Has-front k (distance_calls c.me before) (distance_calls c.me after) h)) b

    which : (x : Bool) → (if x then 0 else 100000) ≤ 100000
    which true = lit≤ tt
    which false = lit≤ tt

-- the first session message is due a second after a member was made, until it sends one

cut : (front : List Entry) (x : Entry) (back before after : List Entry) → front ++ x ∷ back ≡ before ++ after → ((rest : List Entry) × (front ≡ before ++ rest)) ⊎ ((mid : List Entry) × (before ≡ front ++ x ∷ mid))
cut front x back [] after q = inl (front, refl)
cut [] x back (b ∷ before) after q = inr (before, ap (λ w. w ∷ before) (sym (head_same q)))
cut (f ∷ front) x back (b ∷ before) after q = elim (cut front x back before after (tail_same q)) [
  | inl k ↦ inl (k.0, ap (λ w. w ∷ front) (head_same q) ∙ ap (λ w. b ∷ w) k.1)
  | inr k ↦ inr (k.0, ap (λ w. b ∷ w) k.1 ∙ ap (λ w. w ∷ (front ++ x ∷ k.0)) (sym (head_same q)))
]

none_due : (c : Config) (ps es : List Entry) → ((e : Entry) → Has e es → find is_session e.effects.outs ≡ None) → last_of (session_due_after c) (steps_after ps es) ≡ None
none_due c ps [] all = refl
none_due c ps (e ∷ es) all =
    ap (λ o. or_else o (session_due_after c (record { before = ps; this = e }))) (none_due c (ps ++ e ∷ []) es (λ x h. all x (inr h)))
    ∙ ap (option_map (λ g. e.moment + session_interval c ps g)) (all e (inl refl))

pub due_until : (c : Config) (made limit : ℕ) (front : List Entry) (x : Entry) (back : List Entry) → ((e : Entry) → Has e front → find is_session e.effects.outs ≡ None) → limit < last_moment made (front ++ x ∷ [])
    → (before after : List Entry) → front ++ x ∷ back ≡ before ++ after → last_moment made before ≤ limit → session_due c made before ≤ made + SHORTEST_INTERVAL
due_until c made limit front x back all late before after q l = elim (cut front x back before after q) [
  | inl k ↦ (let due : session_due c made before ≡ made + SHORTEST_INTERVAL = ap (λ o. unwrap_or o (made + SHORTEST_INTERVAL)) (none_due c [] before (λ e h. all e (subst (λ w. Has e w) (sym k.1) (Has-front e before k.0 h)))) in omega (arith, due))
  | inr k ↦ (let more : last_moment made (front ++ x ∷ []) ≤ last_moment made before = subst (λ w. last_moment made (front ++ x ∷ []) ≤ last_moment made w) (append_assoc front (x ∷ []) k.0 ∙ sym k.1) (last_more made (front ++ x ∷ []) k.0) in
      absurd (omega (arith, more, late, l)))
]

-- the same by the one clock, on which the member's own began at `lag`
pub due_within : (lag : ℕ) (c : Config) (made limit : ℕ) (front : List Entry) (x : Entry) (back : List Entry) → ((e : Entry) → Has e front → find is_session e.effects.outs ≡ None) → limit < last_moment made (front ++ x ∷ [])
    → (before after : List Entry) → front ++ x ∷ back ≡ before ++ after → lag + last_moment made before ≤ lag + limit → lag + session_due c made before ≤ lag + (made + SHORTEST_INTERVAL)
due_within lag c made limit front x back all late before after q l = let due = due_until c made limit front x back all late before after q (omega arith) in omega (arith, due)

-- what holds of each of some steps, and then of some more
pub joined : {X : Type 0} (P : Step X → Type 0) (before xs ys : List X) → AllByRecursion P (steps_after before xs) → AllByRecursion P (steps_after (before ++ xs) ys) → AllByRecursion P (steps_after before (xs ++ ys))
joined P before [] ys a b = subst (λ w. AllByRecursion P (steps_after w ys)) (append-nil before) b
joined P before (x ∷ xs) ys a b = (a.0, joined P (before ++ x ∷ []) xs ys a.1 (subst (λ w. AllByRecursion P (steps_after w ys)) (sym (append_assoc before (x ∷ []) xs)) b))
