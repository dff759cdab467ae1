-- Entries that say the same to the definitions which read the entries before a call.
use Rattle.std.proofs.Common.{◌≡◌, ℕ, Bool, false, ◌&&◌, ◌||◌, List, [], ◌∷◌, ◌++◌, refl, ap, sym, ◌∙◌}
use Rattle.std.proofs.Math.Bool.{or-false}
use Rattle.std.specs.Prelude.{None, if◌then◌else◌, option_to_list, unwrap_or, nat_lt}
use Rattle.std.specs.List.{flat_map, cons_option}
use Rattle.std.proofs.lemmas.List.{append-nil}
use Rattle.std.proofs.lemmas.List.Elements.{filter_map-append}
use Rattle.srm_names.specs.FullName.{FullName}
use Rattle.srm_names.specs.Histories.{steps, or_else, first_of, last_of}
use Rattle.srm_names.specs.Names.{among}
use Rattle.srm_names.proofs.Snoc.{steps-snoc, last_of-snoc, first_of-snoc, flat_map-snoc, or_else-none}
use Rattle.srm_distance.specs.Distance as distances
use Rattle.srm_timers.specs.declared.arm.ArmKind.{ArmKind}
use Rattle.srm_timers.specs.declared.arm.ArmKind.TheVariants.{Ask, Fix}
use Rattle.srm_timers.specs.FixCalls.{held_until}
use Rattle.srm_entries.specs.Configs.{Config}
use Rattle.srm_entries.specs.declared.entry.Entry.{Entry}
use Rattle.srm_entries.specs.Entries.{done, accepted, state, shown, page_shown, pages_in, sent, drawn, held, held_by, evidence_by, evidence_in}
use Rattle.srm_entries.specs.Distances.{distance, distance_calls, calls_in, calls_of}
use Rattle.srm_entries.specs.Timers.{arm_in, last_ask, asker, asker_in, repaired, repairs_in, first_asker, holds_off, held_off, fix_running}
use Rattle.srm_entries.specs.Verdicts.{settlings, settling_of}
use Rattle.srm_entries.specs.Sessions.{session_due_after}
use Rattle.srm_entries.specs.Giving.{given, given_in}
use Rattle.srm_entries.proofs.Adding.{last_ask-snoc, fix_running-snoc, held_off-snoc}
use Rattle.srm_entries.proofs.Feeding.{given-snoc}
use Rattle.srm_entries.proofs.Running.{shown-page-snoc}
use Rattle.srm_entries.proofs.Showing.{IsQuiet, state-snoc, held-snoc, shown-snoc, drawn-snoc}
use Rattle.srm_entries.proofs.Quiet.{same_held, same_shown, same_drawn, same_settlings, same_distances}

-- These entries say the same to all definitions that read the entries before a call.
pub record Alike (c : Config) (us vs : List Entry) : Type 0 where
  pub states : state us ≡ state vs
  pub showing : shown us ≡ shown vs
  pub pages : flat_map (λ (e : Entry). pages_in (done e)) us ≡ flat_map (λ (e : Entry). pages_in (done e)) vs
  pub draws : drawn us ≡ drawn vs
  pub holds : held us ≡ held vs
  pub evidence : evidence_in us ≡ evidence_in vs
  pub settles : settlings us ≡ settlings vs
  pub distances : distance_calls c.me us ≡ distance_calls c.me vs
  pub sends : sent us ≡ sent vs
  pub gives : (j : ℕ) → given us j ≡ given vs j
  pub asks : (n : FullName) → last_ask us n ≡ last_ask vs n
  pub fixes : (n : FullName) → fix_running us n ≡ fix_running vs n
  pub askers : (n : FullName) → first_of (asker n) us ≡ first_of (asker n) vs
  pub off : (n : FullName) (now : ℕ) → held_off c us n now ≡ held_off c vs n now
  pub sessions : last_of (session_due_after c) (steps us) ≡ last_of (session_due_after c) (steps vs)

pub alike_back : (c : Config) (us vs : List Entry) → Alike c us vs → Alike c vs us
alike_back c us vs a = record {
  states = sym a.states;
  showing = sym a.showing;
  pages = sym a.pages;
  draws = sym a.draws;
  holds = sym a.holds;
  evidence = sym a.evidence;
  settles = sym a.settles;
  distances = sym a.distances;
  sends = sym a.sends;
  gives = λ j. sym (a.gives j);
  asks = λ n. sym (a.asks n);
  fixes = λ n. sym (a.fixes n);
  askers = λ n. sym (a.askers n);
  off = λ n now. sym (a.off n now);
  sessions = sym a.sessions;
}

pub alike_start : (c : Config) → Alike c [] []
alike_start c = record {
  states = refl;
  showing = refl;
  pages = refl;
  draws = refl;
  holds = refl;
  evidence = refl;
  settles = refl;
  distances = refl;
  sends = refl;
  gives = λ j. refl;
  asks = λ n. refl;
  fixes = λ n. refl;
  askers = λ n. refl;
  off = λ n now. refl;
  sessions = refl;
}

-- the same entry behind both

settlings-snoc : (es : List Entry) (e : Entry) → settlings (es ++ e ∷ []) ≡ settlings es ++ cons_option (settling_of (accepted e)) []
settlings-snoc es e = filter_map-append (λ (x : Entry). settling_of (accepted x)) es (e ∷ [])

sessions-snoc : (c : Config) (es : List Entry) (e : Entry)
    → last_of (session_due_after c) (steps (es ++ e ∷ [])) ≡ or_else (session_due_after c (record { before = es; this = e })) (last_of (session_due_after c) (steps es))
sessions-snoc c es e = ap (last_of (session_due_after c)) (steps-snoc es e) ∙ last_of-snoc (session_due_after c) (steps es) (record { before = es; this = e })

module _ (c : Config) (us vs : List Entry) (a : Alike c us vs) (e : Entry) where
  distances_both : distance_calls c.me (us ++ e ∷ []) ≡ distance_calls c.me (vs ++ e ∷ [])
  distances_both = flat_map-snoc (calls_in c.me) us e ∙ ap (λ cs. cs ++ calls_in c.me e) a.distances ∙ sym (flat_map-snoc (calls_in c.me) vs e)

  off_both : (n : FullName) (now : ℕ) → holds_off c n now (record { before = us; this = e }) ≡ holds_off c n now (record { before = vs; this = e })
  off_both n now =
      ap (λ cs. repaired n e && nat_lt now (held_until e.moment (distances.distance c.least_distance cs c.me (first_asker us n)))) distances_both
      ∙ ap (λ o. repaired n e && nat_lt now (held_until e.moment (distance c (vs ++ e ∷ []) (unwrap_or o n.stream.source)))) (a.askers n)

  pause_both : session_due_after c (record { before = us; this = e }) ≡ session_due_after c (record { before = vs; this = e })
  pause_both = rw a.settles refl

  pub alike_both : Alike c (us ++ e ∷ []) (vs ++ e ∷ [])
  alike_both = record {
    states = state-snoc us e ∙ sym (state-snoc vs e);
    showing = shown-page-snoc us e ∙ ap (unwrap_or (page_shown (done e))) a.showing ∙ sym (shown-page-snoc vs e);
    pages = flat_map-snoc (λ (x : Entry). pages_in (done x)) us e ∙ ap (λ ps. ps ++ pages_in (done e)) a.pages ∙ sym (flat_map-snoc (λ (x : Entry). pages_in (done x)) vs e);
    draws = drawn-snoc us e ∙ ap (λ ds. ds ++ option_to_list e.effects.drawn) a.draws ∙ sym (drawn-snoc vs e);
    holds = held-snoc us e ∙ ap (λ ds. ds ++ held_by e) a.holds ∙ sym (held-snoc vs e);
    evidence = shown-snoc us e ∙ ap (λ ns. ns ++ evidence_by e) a.evidence ∙ sym (shown-snoc vs e);
    settles = settlings-snoc us e ∙ ap (λ ss. ss ++ cons_option (settling_of (accepted e)) []) a.settles ∙ sym (settlings-snoc vs e);
    distances = distances_both;
    sends = flat_map-snoc (λ (x : Entry). x.effects.outs) us e ∙ ap (λ gs. gs ++ e.effects.outs) a.sends ∙ sym (flat_map-snoc (λ (x : Entry). x.effects.outs) vs e);
    gives = λ j. given-snoc us e j ∙ ap (λ ms. ms ++ cons_option (given_in j e.input e.effects.message) []) (a.gives j) ∙ sym (given-snoc vs e j);
    asks = λ n. last_ask-snoc us e n ∙ ap (or_else (arm_in Ask n e)) (a.asks n) ∙ sym (last_ask-snoc vs e n);
    fixes = λ n. fix_running-snoc us e n ∙ ap (λ o. if repaired n e then None else or_else (arm_in Fix n e) o) (a.fixes n) ∙ sym (fix_running-snoc vs e n);
    askers = λ n. first_of-snoc (asker n) us e ∙ ap (λ o. or_else o (asker n e)) (a.askers n) ∙ sym (first_of-snoc (asker n) vs e);
    off = λ n now. held_off-snoc c us e n now ∙ ap (λ b. b || holds_off c n now (record { before = us; this = e })) (a.off n now) ∙ ap (λ b. held_off c vs n now || b) (off_both n now) ∙ sym (held_off-snoc c vs e n now);
    sessions = sessions-snoc c us e ∙ ap (λ o. or_else o (last_of (session_due_after c) (steps us))) pause_both ∙ ap (or_else (session_due_after c (record { before = vs; this = e }))) a.sessions ∙ sym (sessions-snoc c vs e);
  }

-- An entry that changes nothing of what these definitions read.
pub record IsStill (us : List Entry) (e : Entry) : Type 0 where
  pub unheard : accepted e ≡ None
  pub drawn : e.effects.drawn ≡ None
  pub arms : e.effects.arms ≡ []
  pub asks : e.effects.asks ≡ []
  pub fixes : e.effects.fixes ≡ []
  pub outs : e.effects.outs ≡ []
  pub after : e.effects.state ≡ state us
  pub pages : pages_in (done e) ≡ []
  pub shown : page_shown (done e) ≡ None
  pub message : (j : ℕ) → given_in j e.input e.effects.message ≡ None

module _ (c : Config) (us : List Entry) (e : Entry) (s : IsStill us e) where
  quiet : IsQuiet e
  quiet = (s.unheard, s.drawn)

  not_armed : (kind : ArmKind) (n : FullName) → arm_in kind n e ≡ None
  not_armed kind n = rw s.arms refl

  not_repaired : (n : FullName) → repaired n e ≡ false
  not_repaired n = ap (λ o. repairs_in n o || among e.effects.fixes n) s.unheard ∙ ap (λ ns. among ns n) s.fixes

  not_asked : (n : FullName) → asker n e ≡ None
  not_asked n = ap (asker_in n) s.unheard

  not_holding_off : (n : FullName) (now : ℕ) → holds_off c n now (record { before = us; this = e }) ≡ false
  not_holding_off n now = ap (λ b. b && nat_lt now (held_until e.moment (distance c (us ++ e ∷ []) (first_asker us n)))) (not_repaired n)

  no_pause : session_due_after c (record { before = us; this = e }) ≡ None
  no_pause = rw s.outs refl

  pub alike_still : (vs : List Entry) → Alike c us vs → Alike c (us ++ e ∷ []) vs
  alike_still vs a = record {
    states = state-snoc us e ∙ s.after ∙ a.states;
    showing = shown-page-snoc us e ∙ ap (λ o. unwrap_or o (shown us)) s.shown ∙ a.showing;
    pages = flat_map-snoc (λ (x : Entry). pages_in (done x)) us e ∙ ap (λ ps. flat_map (λ (x : Entry). pages_in (done x)) us ++ ps) s.pages ∙ append-nil (flat_map (λ (x : Entry). pages_in (done x)) us) ∙ a.pages;
    draws = same_drawn us e quiet ∙ a.draws;
    holds = same_held us e quiet ∙ a.holds;
    evidence = same_shown us e quiet ∙ a.evidence;
    settles = same_settlings us e s.unheard ∙ a.settles;
    distances = same_distances c.me us e (ap (calls_of c.me e.moment) s.unheard) ∙ a.distances;
    sends = flat_map-snoc (λ (x : Entry). x.effects.outs) us e ∙ ap (λ gs. sent us ++ gs) s.outs ∙ append-nil (sent us) ∙ a.sends;
    gives = λ j. given-snoc us e j ∙ ap (λ o. given us j ++ cons_option o []) (s.message j) ∙ append-nil (given us j) ∙ a.gives j;
    asks = λ n. last_ask-snoc us e n ∙ ap (λ o. or_else o (last_ask us n)) (not_armed Ask n) ∙ a.asks n;
    fixes = λ n. fix_running-snoc us e n ∙ ap (λ (b : Bool). if b then None else or_else (arm_in Fix n e) (fix_running us n)) (not_repaired n) ∙ ap (λ o. or_else o (fix_running us n)) (not_armed Fix n) ∙ a.fixes n;
    askers = λ n. first_of-snoc (asker n) us e ∙ ap (or_else (first_of (asker n) us)) (not_asked n) ∙ or_else-none (first_of (asker n) us) ∙ a.askers n;
    off = λ n now. held_off-snoc c us e n now ∙ ap (λ b. held_off c us n now || b) (not_holding_off n now) ∙ or-false (held_off c us n now) ∙ a.off n now;
    sessions = sessions-snoc c us e ∙ ap (λ o. or_else o (last_of (session_due_after c) (steps us))) no_pause ∙ a.sessions;
  }
