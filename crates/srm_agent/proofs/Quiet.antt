-- An entry that hears, draws, sets, requests and repairs nothing, and what it leaves as it was. The same of one that sends nothing
-- either.
use Rattle.std.proofs.Common.{◌≡◌, ℕ, ◌+◌, Bool, true, false, not, ◌&&◌, ◌||◌, List, [], ◌∷◌, ◌++◌, refl, ap, sym, ◌∙◌, subst}
use Rattle.std.specs.Prelude.{None, option_map, is_some, if◌then◌else◌, unwrap_or}
use Rattle.std.proofs.Math.Bool.{or-false}
use Rattle.std.proofs.lemmas.Bool.{and_left}
use Rattle.std.proofs.lemmas.List.{append-nil, map-append}
use Rattle.srm_names.specs.FullName.{FullName}
use Rattle.srm_names.specs.Histories.{steps, or_else, last_of, first_of}
use Rattle.srm_names.specs.Names.{among}
use Rattle.srm_names.proofs.Snoc.{steps-snoc, last_of-snoc, first_of-snoc, or_else-none}
use Rattle.srm_timers.specs.declared.arm.Arm.{Arm}
use Rattle.srm_timers.specs.declared.arm.ArmKind.{ArmKind}
use Rattle.srm_timers.specs.declared.arm.ArmKind.TheVariants.{Ask, Fix}
use Rattle.srm_timers.specs.Arms.{wait_basis, ran_out, arm_of}
use Rattle.srm_bucket.specs.Content.{BucketContent}
use Rattle.srm_entries.specs.declared.entry.Entry.{Entry}
use Rattle.srm_outbox.specs.declared.out.Outgoing.{Outgoing}
use Rattle.srm_entries.specs.Configs.{Config}
use Rattle.srm_entries.specs.Entries.{accepted, ticked, state, is_gone, is_missing, is_held}
use Rattle.srm_entries.specs.Timers.{arm_in, last_ask, fix_running, held_off, asker, asker_in, repaired, repairs_in, ask_exponent, ask_basis_of, fix_basis_of, basis_of, ArmsRight, TimersRight, only_if}
use Rattle.srm_entries.specs.Sessions.{session_due, session_due_after, session_message_due, EndsWith, SessionRight}
use Rattle.srm_entries.specs.Bucket.{Going, idle, GoesAsCharged, entries_of, bucket_calls, calls_by}
use Rattle.srm_agent_state.specs.TimersKept.{TimersContent, TimersFit}
use Rattle.srm_agent_state.proofs.Midway.{if_none}
use Rattle.srm_agent.specs.Fits.{BucketFitsPast}
use Rattle.srm_entries.proofs.Adding.{last_ask-snoc, fix_running-snoc, held_off-snoc}
use Rattle.srm_entries.proofs.Showing.{IsQuiet}
use Rattle.srm_entries.proofs.Quiet.{same_missing}
use Rattle.srm_entries.proofs.Running.{steps_more}
use Rattle.srm_entries.proofs.Silence.{no_ending}
use Rattle.srm_entries.proofs.Arming.{ask_at}
use Rattle.srm_entries.proofs.Cutting.{bucket_calls-append}

pub record Quiet (e : Entry) : Type 0 where
  pub unheard : accepted e ≡ None
  pub drawn : e.effects.drawn ≡ None
  pub arms : e.effects.arms ≡ []
  pub asks : e.effects.asks ≡ []
  pub fixes : e.effects.fixes ≡ []

-- it is no tick, or one of a member that is gone, and sends nothing
pub record IsIdle (past : List Entry) (e : Entry) : Type 0 where
  pub rests : (ticked e && not (is_gone (state past))) ≡ false
  pub outs : e.effects.outs ≡ []

pub is_quiet : (e : Entry) → Quiet e → IsQuiet e
is_quiet e q = (q.unheard, q.drawn)

-- timers

no_arm : (kind : ArmKind) (n : FullName) (e : Entry) → Quiet e → arm_in kind n e ≡ None
no_arm kind n e q = rw q.arms refl

pub same_last_ask : (past : List Entry) (e : Entry) (n : FullName) → Quiet e → last_ask (past ++ e ∷ []) n ≡ last_ask past n
same_last_ask past e n q = last_ask-snoc past e n ∙ ap (λ o. or_else o (last_ask past n)) (no_arm Ask n e q)

not_repaired : (e : Entry) (n : FullName) → Quiet e → repaired n e ≡ false
not_repaired e n q = ap (λ o. repairs_in n o || among e.effects.fixes n) q.unheard ∙ ap (λ ns. among ns n) q.fixes

same_fix : (past : List Entry) (e : Entry) (n : FullName) → Quiet e → fix_running (past ++ e ∷ []) n ≡ fix_running past n
same_fix past e n q =
    fix_running-snoc past e n ∙ ap (λ (b : Bool). if b then None else or_else (arm_in Fix n e) (fix_running past n)) (not_repaired e n q)
    ∙ ap (λ o. or_else o (fix_running past n)) (no_arm Fix n e q)

not_asked : (n : FullName) (e : Entry) → Quiet e → asker n e ≡ None
not_asked n e q = ap (asker_in n) q.unheard

same_asker : (past : List Entry) (e : Entry) (n : FullName) → Quiet e → first_of (asker n) (past ++ e ∷ []) ≡ first_of (asker n) past
same_asker past e n q = first_of-snoc (asker n) past e ∙ ap (or_else (first_of (asker n) past)) (not_asked n e q) ∙ or_else-none (first_of (asker n) past)

same_off : (c : Config) (past : List Entry) (e : Entry) (n : FullName) (now : ℕ) → Quiet e → held_off c (past ++ e ∷ []) n now ≡ held_off c past n now
same_off c past e n now q =
    held_off-snoc c past e n now ∙ ap (λ b. held_off c past n now || b) (and_left (repaired n e) _ (not_repaired e n q)) ∙ or-false (held_off c past n now)

pub timers_stay : (c : Config) (past : List Entry) (e : Entry) (t : TimersContent) → Quiet e → TimersFit c past t → TimersFit c (past ++ e ∷ []) t
timers_stay c past e t q h = record {
  ask_calls = h.ask_calls;
  asks = h.asks;
  ask_timers = λ n. h.ask_timers n ∙ sym (ap (λ b. only_if b (last_ask (past ++ e ∷ []) n)) (same_missing past e n (is_quiet e q)) ∙ ap (only_if (is_missing past n)) (same_last_ask past e n q));
  fix_calls = h.fix_calls;
  fixes = h.fixes;
  fix_timers = λ n. h.fix_timers n ∙ sym (same_fix past e n q);
  askers = λ n. h.askers n ∙ sym (same_asker past e n q);
  hold_offs = λ n now. h.hold_offs n now ∙ sym (same_off c past e n now q);
}

-- the bucket

no_calls : (me : ℕ) (gs : List Going) (e : Entry) → e.effects.drawn ≡ None → e.effects.asks ≡ [] → e.effects.fixes ≡ [] → IsIdle (entries_of gs) e → calls_by me (record { before = gs; this = idle e }) ≡ []
no_calls me gs e undrawn unasked unfixed i = rw (undrawn, unasked, unfixed, i.rests) refl

same_calls : (me : ℕ) (gs : List Going) (e : Entry) → e.effects.drawn ≡ None → e.effects.asks ≡ [] → e.effects.fixes ≡ [] → IsIdle (entries_of gs) e → bucket_calls me (gs ++ idle e ∷ []) ≡ bucket_calls me gs
same_calls me gs e undrawn unasked unfixed i =
    bucket_calls-append me gs (idle e ∷ []) ∙ ap (λ cs. bucket_calls me gs ++ (cs ++ [])) (no_calls me gs e undrawn unasked unfixed i) ∙ append-nil (bucket_calls me gs)

quiet_goes : (gs : List Going) (e : Entry) → IsIdle (entries_of gs) e → GoesAsCharged (record { before = gs; this = idle e })
quiet_goes gs e i = record { same = rw i.outs refl; at_ticks = rw i.rests refl }

pub bucket_stays : (c : Config) (past : List Entry) (e : Entry) (b : BucketContent Outgoing) → e.effects.drawn ≡ None → e.effects.asks ≡ [] → e.effects.fixes ≡ [] → IsIdle past e → BucketFitsPast c past b → BucketFitsPast c (past ++ e ∷ []) b
bucket_stays c past e b undrawn unasked unfixed i h = record {
  goings = h.goings ++ idle e ∷ [];
  entries = map-append (λ (g : Going). g.entry) h.goings (idle e ∷ []) ∙ ap (λ es. es ++ e ∷ []) h.entries;
  goes = steps_more GoesAsCharged h.goings (idle e) h.goes (quiet_goes h.goings e (subst (λ es. IsIdle es e) (sym h.entries) i));
  calls = h.calls;
  read = h.read ∙ sym (same_calls c.me h.goings e undrawn unasked unfixed (subst (λ es. IsIdle es e) (sym h.entries) i));
  fits = h.fits;
}

-- the session message

no_pause : (c : Config) (past : List Entry) (e : Entry) → e.effects.outs ≡ [] → session_due_after c (record { before = past; this = e }) ≡ None
no_pause c past e none = rw none refl

pub same_due : (c : Config) (made : ℕ) (past : List Entry) (e : Entry) → e.effects.outs ≡ [] → session_due c made (past ++ e ∷ []) ≡ session_due c made past
same_due c made past e none =
    ap (λ o. unwrap_or o (made + 1000000))
    (ap (last_of (session_due_after c)) (steps-snoc past e) ∙ last_of-snoc (session_due_after c) (steps past) (record { before = past; this = e })
    ∙ ap (λ o. or_else o (last_of (session_due_after c) (steps past))) (no_pause c past e none))

-- the entry is one that those before it allow

no_setting : (c : Config) (past : List Entry) (e : Entry) (n : FullName) → Quiet e → basis_of c past e n ≡ None
no_setting c past e n q = go (is_held past n) refl
  where
    fix : fix_basis_of c past e n ≡ None
    fix = if_none (is_held past n && not (is_some (fix_running past n)) && not (held_off c past n e.moment)) _ (rw (not_asked n e q) refl)

    exponent : (b : Bool) → is_missing past n ≡ b → ask_exponent past e n ≡ None
    exponent true m = rw (m, not_asked n e q, q.asks) refl
    exponent false m = rw (m, same_missing past e n (is_quiet e q), m) refl

    go : (b : Bool) → is_held past n ≡ b → basis_of c past e n ≡ None
    go true h = ap (λ (b : Bool). if b then fix_basis_of c past e n else ask_basis_of c past e n) h ∙ fix
    go false h = ap (λ (b : Bool). if b then fix_basis_of c past e n else ask_basis_of c past e n) h ∙ ap (option_map (ask_at c (past ++ e ∷ []) n)) (exponent (is_missing past n) refl)

pub no_arms : (c : Config) (past : List Entry) (e : Entry) → Quiet e → ArmsRight c past e
no_arms c past e q = record {
  are = record {
    in_order = rw q.arms refl;
    exact = λ n. ap (λ (as_ : List Arm). option_map wait_basis (arm_of n as_)) q.arms ∙ sym (no_setting c past e n q);
  };
  waits = rw q.arms tt;
}

never : (t g x : Bool) → (t && not g) ≡ false → (t && (not g && x)) ≡ false
never true g x i = ap (λ b. b && x) i
never false g x i = refl

never_both : (t g x y : Bool) → (t && not g) ≡ false → (t && ((not g && x) && y)) ≡ false
never_both true true x y i = refl
never_both true false x y i = absurd (cc)
never_both false g x y i = refl

pub no_timers : (past : List Entry) (e : Entry) → e.effects.asks ≡ [] → e.effects.fixes ≡ [] → IsIdle past e → TimersRight past e
no_timers past e unasked unfixed i = record {
  asks = record { in_order = rw unasked refl; exact = λ n. rw unasked (sym (never_both (ticked e) (is_gone (state past)) (is_missing past n) (ran_out e.moment (last_ask past n)) i.rests)) };
  fixes = record { in_order = rw unfixed refl; exact = λ n. rw unfixed (sym (never (ticked e) (is_gone (state past)) (ran_out e.moment (fix_running past n)) i.rests)) };
}

pub no_session : (c : Config) (made : ℕ) (past : List Entry) (e : Entry) → IsIdle past e → SessionRight c made past e
no_session c made past e i =
    let none : session_message_due c made past e ≡ None = no_ending (ticked e) (is_gone (state past)) _ i.rests in
    subst (EndsWith c past e) (sym none) (rw i.outs refl)
