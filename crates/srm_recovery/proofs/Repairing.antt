-- A member that holds a name and hears a request for it repairs it in time, or hears or made a repair of it not long before.
use Rattle.std.proofs.Common.{◌≡◌, ℕ, ◌+◌, ◌*◌, ◌≤◌, ◌<◌, Bool, true, false, not, ◌&&◌, ◌||◌, List, [], ◌∷◌, ◌++◌, refl, ap, sym, ◌∙◌, subst, arith, inl, inr, append_assoc}
use Rattle.std.specs.Prelude.{◌⊎◌, Option, Some, None, if◌then◌else◌, is_some, option_map, nat_lt}
use Rattle.std.specs.List.{list_any, AllByRecursion}
use Rattle.std.proofs.lemmas.Bool.{le-leb, and_parts, ltb-true}
use Rattle.std.proofs.lemmas.List.{append-nil}
use Rattle.std.proofs.Math.Bool.{or-true}
use Rattle.srm_names.specs.FullName.{FullName}
use Rattle.srm_names.specs.Histories.{steps, steps_after, or_else, since}
use Rattle.srm_names.specs.Names.{among}
use Rattle.srm_names.proofs.Lists.{Has, Has-split, Has-append, Has-step_split, at_parts, any_Has, All-Has}
use Rattle.srm_names.proofs.Orders.{and_left}
use Rattle.srm_codec.specs.declared.datagram.Datagram.{Datagram}
use Rattle.srm_timers.specs.declared.arm.ArmKind.TheVariants.{Ask, Fix}
use Rattle.srm_timers.specs.declared.arm.Armed.{Armed}
use Rattle.srm_timers.specs.Arms.{WaitBasis, ran_out, runs_out_at}
use Rattle.srm_timers.specs.FixCalls.{held_until}
use Rattle.srm_entries.specs.Configs.{Config}
use Rattle.srm_entries.specs.declared.entry.Entry.{Entry}
use Rattle.srm_entries.specs.Entries.{accepted, ticked, state, is_gone, is_held}
use Rattle.srm_entries.specs.Distances.{distance}
use Rattle.srm_entries.specs.Timers.{arm_in, asker, asks_for, repairs_in, repaired, first_asker, holds_off, held_off, fix_running, fix_due, ask_exponent, ask_basis_of, fix_basis_of, basis_of, ArmsRight, TimersRight}
use Rattle.srm_entries.specs.Runs.{EntryRight}
use Rattle.srm_entries.proofs.Adding.{fix_running-snoc}
use Rattle.srm_entries.proofs.Arming.{ask_at, fix_at, some_of, arm_found, set_by, unset_by, kind_set}
use Rattle.srm_entries.proofs.Responding.{response_law}
use Rattle.srm_world.specs.declared.start.Start.{Start}
use Rattle.srm_world.specs.Traces.{Trace, of_member}
use Rattle.srm_recovery.specs.Timing.{Timing}
use Rattle.srm_recovery.specs.Members.{EntryWithin, WaitsAtMost, HoldsOffAtMost}
use Rattle.srm_recovery.proofs.Ordering.{Moves, tick_moves, hearing_moves, right_at, rising, comes_before, last_of_split, Own}
use Rattle.srm_recovery.proofs.Asking.{held_more, asking_moves}

-- an entry that repairs moves the clock

pub repair_heard : (n : FullName) (o : Option Datagram) → repairs_in n o ≡ true → is_some o ≡ true
repair_heard n None e = absurd (cc)
repair_heard n (Some g) e = refl

pub fix_ticks : (c : Config) (made : ℕ) (before : List Entry) (e : Entry) (n : FullName) → EntryRight c made (record { before = before; this = e }) → among e.effects.fixes n ≡ true → ticked e ≡ true
fix_ticks c made before e n r a = and_left (ticked e) (fix_due before n e.moment) (sym (r.timers.fixes.exact n) ∙ a)

pub repairing_moves : (c : Config) (made : ℕ) (before : List Entry) (e : Entry) (n : FullName) → EntryRight c made (record { before = before; this = e }) → repaired n e ≡ true → Moves made before e
repairing_moves c made before e n r p = go (repairs_in n (accepted e)) refl
  where
    go : (b : Bool) → repairs_in n (accepted e) ≡ b → Moves made before e
    go true h = let (g, q) = some_of (accepted e) (repair_heard n (accepted e) h) in hearing_moves made before e g q
    go false h = tick_moves c made before e r (fix_ticks c made before e n r (sym (ap (λ b. b || among e.effects.fixes n) h) ∙ p))

-- a repair timer is set by a request

ask_kind : (f : ℕ → WaitBasis) (s : WaitBasis) (o : Option ℕ) → ((i : ℕ) → (f i).kind ≡ Ask) → option_map f o ≡ Some s → s.kind ≡ Ask
ask_kind f s None k e = absurd (cc)
ask_kind f s (Some i) k e = let h : f i ≡ s = cc in ap (λ (t : WaitBasis). t.kind) (sym h) ∙ k i

fix_for_request : (c : Config) (before : List Entry) (e : Entry) (n : FullName) (a : Armed) → ArmsRight c before e → arm_in Fix n e ≡ Some a → asks_for n e ≡ true
fix_for_request c before e n a r k = go (is_held before n) refl
  where
    some : is_some (basis_of c before e n) ≡ true
    some = set_by Fix n c before e a r k

    asks : (b : Bool) (f : ℕ → WaitBasis) (o : Option ℕ) → is_some (if b then option_map f o else None) ≡ true → is_some o ≡ true
    asks true f (Some x) s = refl
    asks true f None s = s
    asks false f o s = absurd (cc)

    go : (b : Bool) → is_held before n ≡ b → asks_for n e ≡ true
    go true h = asks (is_held before n && not (is_some (fix_running before n)) && not (held_off c before n e.moment)) (fix_at c before) (asker n e)
        (ap (λ b. is_some (if b then fix_basis_of c before e n else ask_basis_of c before e n)) (sym h) ∙ some)
    go false h =
        let (s, q) = some_of (basis_of c before e n) some in
        let fix : s.kind ≡ Fix = kind_set Fix n c before e a s r k q in
        let ask : s.kind ≡ Ask = ask_kind (ask_at c (before ++ e ∷ []) n) s (ask_exponent before e n) (λ i. refl)
        (ap (λ b. if b then fix_basis_of c before e n else ask_basis_of c before e n) (sym h) ∙ q) in
        absurd (cc)

-- it runs until a repair

fix_stays : (c : Config) (made : ℕ) (before : List Entry) (e : Entry) (n : FullName) (a : Armed) → EntryRight c made (record { before = before; this = e })
    → fix_running before n ≡ Some a → is_held before n ≡ true → repaired n e ≡ false → fix_running (before ++ e ∷ []) n ≡ Some a
fix_stays c made before e n a r f h p =
    fix_running-snoc before e n
    ∙ ap (λ b. if b then None else or_else (arm_in Fix n e) (fix_running before n)) p
    ∙ ap (λ o. or_else o (fix_running before n))
    (unset_by Fix n c before e r.arms
    (ap (λ b. if b then fix_basis_of c before e n else ask_basis_of c before e n) h
    ∙ ap (λ t. if t && not (is_some (fix_running before n)) && not (held_off c before n e.moment) then option_map (fix_at c before) (asker n e) else None) h
    ∙ ap (λ t. if not (is_some t) && not (held_off c before n e.moment) then option_map (fix_at c before) (asker n e) else None) f))
    ∙ f

fix_runs_on : (c : Config) (made : ℕ) (n : FullName) (a : Armed) (before between : List Entry) → fix_running before n ≡ Some a → is_held before n ≡ true
    → AllByRecursion (EntryRight c made) (steps_after before between)
    → (list_any (repaired n) between ≡ true) ⊎ (fix_running (before ++ between) n ≡ Some a)
fix_runs_on c made n a before [] f h all = inr (subst (λ es. fix_running es n ≡ Some a) (sym (append-nil before)) f)
fix_runs_on c made n a before (x ∷ xs) f h all =
    go (repaired n x) refl (λ p. fix_runs_on c made n a (before ++ x ∷ []) xs (fix_stays c made before x n a all.0 f h p) (held_more before (x ∷ []) n h) all.1)
  where
    go : (b : Bool) → repaired n x ≡ b → (repaired n x ≡ false → (list_any (repaired n) xs ≡ true) ⊎ (fix_running ((before ++ x ∷ []) ++ xs) n ≡ Some a))
        → (list_any (repaired n) (x ∷ xs) ≡ true) ⊎ (fix_running (before ++ x ∷ xs) n ≡ Some a)
    go true p more = inl (ap (λ b. b || list_any (repaired n) xs) p)
    go false p more = elim (more p) [
      | inl l ↦ inl (ap (λ b. repaired n x || b) l ∙ or-true (repaired n x))
      | inr l ↦ inr (subst (λ es. fix_running es n ≡ Some a) (append_assoc before (x ∷ []) xs) l)
    ]

repairs_at : (past : List Entry) (tick : Entry) (n : FullName) (a : Armed) → TimersRight past tick → ticked tick ≡ true → is_gone (state past) ≡ false
    → fix_running past n ≡ Some a → runs_out_at a ≤ tick.moment → repaired n tick ≡ true
repairs_at past tick n a r t g f w =
    let due : fix_due past n tick.moment ≡ true =
    ap (λ b. not b && ran_out tick.moment (fix_running past n)) g ∙ ap (ran_out tick.moment) f ∙ le-leb (runs_out_at a) tick.moment w in
    let handed : among tick.effects.fixes n ≡ true = r.fixes.exact n ∙ ap (λ b. b && fix_due past n tick.moment) t ∙ due in
    ap (λ b. repairs_in n (accepted tick) || b) handed ∙ or-true (repairs_in n (accepted tick))

-- what stands since an entry, stood
since_Has : {X : Type 0} (p : X → Bool) (x : X) (xs : List X) → Has x (since p xs) → Has x xs
since_Has p x [] h = absurd h
since_Has {X = X} p x (y ∷ ys) h = go (list_any p ys) (p y) h (since_Has p x ys)
  where
    go : (any here : Bool) → Has x (if any then since p ys else if here then ys else y ∷ ys) → (Has x (since p ys) → Has x ys) → Has x (y ∷ ys)
    go true here k more = inr (more k)
    go false true k more = inr k
    go false false k more = k

-- a hold-off that isn't over began not long before
not_long : (clock now was d hold_off from : ℕ) → now < held_until was d → held_until 0 d ≤ hold_off → from + hold_off ≤ clock + now → from ≤ clock + was
not_long clock now was d hold_off from a b l =
    let p : now < was + 3 * d = a in
    let q : 0 + 3 * d ≤ hold_off = b in
    omega arith

-- an entry of a member that repairs the name: that hears or makes a repair
pub record Repairs (t : Trace) (p : Timing) (m : ℕ) (n : FullName) (from to : ℕ) : Type 0 where
  pub at : EntryWithin t p m from to
  pub does : repaired n at.this ≡ true

-- Who holds a name and hears a request for it, repairs it by a tick after the longest wait, or did so at most a hold-off before the request.
pub repairs_in_time : (t : Trace) (p : Timing) (k : ℕ) (o : Own t k) (n : FullName) (from longest hold_off to end : ℕ) → to ≤ end → WaitsAtMost t p Fix k n end longest
    → HoldsOffAtMost t k hold_off → (ask : EntryWithin t p k (from + hold_off) to) → asks_for n ask.this ≡ true → is_held ask.before n ≡ true
    → (tick : EntryWithin t p k (p.clock k + ask.this.moment + longest + 1) to) → is_gone (state tick.before) ≡ false → ticked tick.this ≡ true → Repairs t p k n from to
repairs_in_time t p k o n from longest hold_off to end within waits offs ask asks holds tick here ticks = which (held_off c ask.before n ask.this.moment) refl
  where
    c : Config
    c = o.start.config

    made : ℕ
    made = o.start.made

    es : List Entry
    es = of_member k t.entries

    all : AllByRecursion (EntryRight c made) (steps es)
    all = o.run.each

    right : EntryRight c made (record { before = tick.before; this = tick.this })
    right = right_at c made es tick.before tick.after tick.this all tick.split

    short : (before after : List Entry) (b : ℕ) → es ≡ before ++ after → held_until 0 (distance c before b) ≤ hold_off
    short = All-Has (λ (a : Start). a.config.me ≡ k → (before after : List Entry) (b : ℕ) → of_member k t.entries ≡ before ++ after → held_until 0 (distance a.config before b) ≤ hold_off) o.start t.starts offs o.has o.me

    asked_by_end : p.clock k + ask.this.moment ≤ end
    asked_by_end = let l = ask.not_after in omega arith

    ask_moves : Moves made ask.before ask.this
    ask_moves = asking_moves made ask.before ask.this n asks

    -- the hold-off is that of a repair before the request
    was_repaired : held_off c ask.before n ask.this.moment ≡ true → Repairs t p k n from to
    was_repaired off =
        let (s, there, holding_off) = any_Has (holds_off c n ask.this.moment) (steps ask.before) off in
        let (rest, q) = Has-step_split s [] ask.before there in
        let parts = and_parts (repaired n s.this) (nat_lt ask.this.moment (held_until s.this.moment (distance c (s.before ++ s.this ∷ []) (first_asker s.before n)))) holding_off in
        let until = ltb-true ask.this.moment (held_until s.this.moment (distance c (s.before ++ s.this ∷ []) (first_asker s.before n))) parts.1 in
        let split : es ≡ s.before ++ s.this ∷ (rest ++ ask.this ∷ ask.after) = ask.split ∙ ap (λ w. w ++ ask.this ∷ ask.after) q ∙ append_assoc s.before (s.this ∷ rest) (ask.this ∷ ask.after) in
        let brief : held_until 0 (distance c (s.before ++ s.this ∷ []) (first_asker s.before n)) ≤ hold_off =
        short (s.before ++ s.this ∷ []) (rest ++ ask.this ∷ ask.after) (first_asker s.before n)
        (split ∙ sym (append_assoc s.before (s.this ∷ []) (rest ++ ask.this ∷ ask.after))) in
        let up : s.this.moment ≤ ask.this.moment = rising c made es all s.before s.this rest ask.this ask.after (ask.split ∙ ap (λ w. w ++ ask.this ∷ ask.after) q)
        (repairing_moves c made s.before s.this n (right_at c made es s.before (rest ++ ask.this ∷ ask.after) s.this all split) parts.0) in
        let low : from ≤ p.clock k + s.this.moment = not_long (p.clock k) ask.this.moment s.this.moment (distance c (s.before ++ s.this ∷ []) (first_asker s.before n)) hold_off from until brief ask.not_before in
        let last : p.clock k + ask.this.moment ≤ to = ask.not_after in
        record { at = record { before = s.before; this = s.this; after = rest ++ ask.this ∷ ask.after; split = split; not_before = low; not_after = omega arith }; does = parts.0 }

    before_tick : (mid : List Entry) × (tick.before ≡ ask.before ++ ask.this ∷ mid)
    before_tick = comes_before c made es all tick.before tick.this tick.after ask.before ask.this ask.after tick.split ask.split (tick_moves c made tick.before tick.this right ticks)
        (let l = tick.not_before in omega arith)

    -- a timer runs behind the request, and was set by then
    running : held_off c ask.before n ask.this.moment ≡ false → (a : Armed) × (fix_running (ask.before ++ ask.this ∷ []) n ≡ Some a) × (a.set ≤ ask.this.moment) × (a.arm.wait ≤ longest)
    running off =
        let (a, f) = some_of (fix_running (ask.before ++ ask.this ∷ []) n) ((response_law c made es o.run).fixing ask.before ask.after ask.this n ask.split holds off asks) in
        let (one, e, two, q, arm) = last_of_split (arm_in Fix n) (since (repaired n) (ask.before ++ ask.this ∷ [])) a f in
        let there : Has e (ask.before ++ ask.this ∷ []) = since_Has (repaired n) e (ask.before ++ ask.this ∷ []) (subst (λ w. Has e w) (sym q) (has_mid one e two)) in
        let set : a.set ≡ e.moment = (arm_found Fix n e a arm).1 in
        let at = placed e a there arm in
        let early : e.moment ≤ ask.this.moment = at.0 in
        let by_then : a.set ≤ ask.this.moment = omega arith in
        (a, f, by_then, at.1)
      where
        has_mid : (one : List Entry) (e : Entry) (two : List Entry) → Has e (one ++ e ∷ two)
        has_mid [] e two = inl refl
        has_mid (x ∷ one) e two = inr (has_mid one e two)

        same_moment : (e : Entry) → e ≡ ask.this → e.moment ≤ ask.this.moment
        same_moment e q = let l : e.moment ≡ ask.this.moment = ap (λ (x : Entry). x.moment) q in omega arith

        placed : (e : Entry) (a : Armed) → Has e (ask.before ++ ask.this ∷ []) → arm_in Fix n e ≡ Some a → (e.moment ≤ ask.this.moment) × (a.arm.wait ≤ longest)
        placed e a there arm = elim (Has-append e ask.before (ask.this ∷ []) there) [
          | inl l ↦ (let (one, two, q) = Has-split e ask.before l in
              let split : es ≡ one ++ e ∷ (two ++ ask.this ∷ ask.after) = ask.split ∙ ap (λ w. w ++ ask.this ∷ ask.after) q ∙ append_assoc one (e ∷ two) (ask.this ∷ ask.after) in
              let sets = right_at c made es one (two ++ ask.this ∷ ask.after) e all split in
              let moves = asking_moves made one e n (fix_for_request c one e n a sets.arms arm) in
              let up : e.moment ≤ ask.this.moment = rising c made es all one e two ask.this ask.after (ask.split ∙ ap (λ w. w ++ ask.this ∷ ask.after) q) moves in
              (up, waits (record { before = one; this = e; after = two ++ ask.this ∷ ask.after; split = split; not_before = omega arith; not_after = omega arith }) a arm))
          | inr (inl same) ↦ (
            same_moment e same,
            waits (record { before = ask.before; this = ask.this; after = ask.after; split = ask.split; not_before = omega arith; not_after = asked_by_end }) a (subst (λ x. arm_in Fix n x ≡ Some a) same arm),
          )
          | inr (inr f) ↦ absurd f
        ]

    between : held_off c ask.before n ask.this.moment ≡ false → Repairs t p k n from to
    between off =
        let (mid, q) = before_tick in
        let (a, f, set, wait) = running off in
        let parts : tick.before ≡ (ask.before ++ ask.this ∷ []) ++ mid = q ∙ sym (append_assoc ask.before (ask.this ∷ []) mid) in
        let part : AllByRecursion (EntryRight c made) (steps tick.before) = (at_parts (EntryRight c made) tick.before (tick.this ∷ tick.after) (subst (λ w. AllByRecursion (EntryRight c made) (steps w)) tick.split all)).0 in
        let later : AllByRecursion (EntryRight c made) (steps_after (ask.before ++ ask.this ∷ []) mid) =
        (at_parts (EntryRight c made) (ask.before ++ ask.this ∷ []) mid (subst (λ w. AllByRecursion (EntryRight c made) (steps w)) parts part)).1 in
        let low : from + hold_off ≤ p.clock k + ask.this.moment = ask.not_before in
        let mark : p.clock k + ask.this.moment + longest + 1 ≤ p.clock k + tick.this.moment = tick.not_before in
        let last : p.clock k + tick.this.moment ≤ to = tick.not_after in
        elim (fix_runs_on c made n a (ask.before ++ ask.this ∷ []) mid f (held_more ask.before (ask.this ∷ []) n holds) later) [
          | inl any ↦ (let (r, there, does) = any_Has (repaired n) mid any in
              let (one, two, e) = Has-split r mid there in
              let same : tick.before ≡ (ask.before ++ ask.this ∷ one) ++ r ∷ two = q ∙ ap (λ w. ask.before ++ ask.this ∷ w) e ∙ sym (append_assoc ask.before (ask.this ∷ one) (r ∷ two)) in
              let split : es ≡ (ask.before ++ ask.this ∷ one) ++ r ∷ (two ++ tick.this ∷ tick.after) =
              tick.split ∙ ap (λ w. w ++ tick.this ∷ tick.after) same ∙ append_assoc (ask.before ++ ask.this ∷ one) (r ∷ two) (tick.this ∷ tick.after) in
              let after : ask.this.moment ≤ r.moment = rising c made es all ask.before ask.this one r (two ++ tick.this ∷ tick.after) split ask_moves in
              let up : r.moment ≤ tick.this.moment = rising c made es all (ask.before ++ ask.this ∷ one) r two tick.this tick.after (tick.split ∙ ap (λ w. w ++ tick.this ∷ tick.after) same)
              (repairing_moves c made (ask.before ++ ask.this ∷ one) r n (right_at c made es (ask.before ++ ask.this ∷ one) (two ++ tick.this ∷ tick.after) r all split) does) in
              record { at = record { before = ask.before ++ ask.this ∷ one; this = r; after = two ++ tick.this ∷ tick.after; split = split; not_before = omega arith; not_after = omega arith }; does = does })
          | inr runs ↦ (let over : runs_out_at a ≤ tick.this.moment = omega arith in
              let does : repaired n tick.this ≡ true = repairs_at tick.before tick.this n a right.timers ticks here (subst (λ w. fix_running w n ≡ Some a) (sym parts) runs) over in
              record { at = record { before = tick.before; this = tick.this; after = tick.after; split = tick.split; not_before = omega arith; not_after = tick.not_after }; does = does })
        ]

    which : (b : Bool) → held_off c ask.before n ask.this.moment ≡ b → Repairs t p k n from to
    which true off = was_repaired off
    which false off = between off
