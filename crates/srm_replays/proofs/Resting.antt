-- A call that doesn't act changes nothing of what later calls read.
use Rattle.std.proofs.Common.{◌≡◌, ℕ, ◌==◌, Bool, true, false, not, ◌&&◌, List, [], ◌∷◌, ◌++◌, refl, ap, sym, ◌∙◌, subst}
use Rattle.std.specs.Prelude.{Option, Some, None, is_none, is_some, option_map, if◌then◌else◌}
use Rattle.std.specs.List.{list_any}
use Rattle.std.proofs.lemmas.Bool.{OnTrue_at}
use Rattle.srm_names.specs.declared.page_msg.PageMsg.{PageMsg}
use Rattle.srm_names.specs.FullName.{FullName}
use Rattle.srm_codec.specs.Spelling.{is_farewell}
use Rattle.srm_bucket.specs.Law.{BucketLaw}
use Rattle.srm_entries.specs.Configs.{Config}
use Rattle.srm_entries.specs.declared.entry.Entry.{Entry}
use Rattle.srm_entries.specs.declared.entry.Effects.{Effects}
use Rattle.srm_entries.specs.declared.entry.Input.{Input}
use Rattle.srm_entries.specs.declared.entry.Input.TheVariants.{Drew, Heard, Noise, Ticked, Showed, AskedLeave, Gave, Took}
use Rattle.srm_entries.specs.declared.entry.Verdict.{Verdict}
use Rattle.srm_entries.specs.declared.entry.Verdict.TheVariants.{Done, Ignored, Refused}
use Rattle.srm_entries.specs.declared.state.AgentState.{AgentState}
use Rattle.srm_entries.specs.Entries.{done, done_input, heard_in, accepted, is_tick, ticked, state, is_gone, page_shown, pages_in, is_held, is_missing}
use Rattle.srm_entries.specs.Timers.{ask_due, fix_due, fix_running, held_off, asker, asker_in, ask_exponent, ask_basis_of, fix_basis_of, basis_of}
use Rattle.srm_entries.specs.Verdicts.{VerdictRight}
use Rattle.srm_entries.specs.Sessions.{charged, session_message_due, EndsWith}
use Rattle.srm_entries.specs.Giving.{given_in}
use Rattle.srm_entries.specs.Bucket.{Going, GoesAsCharged, entries_of, datagrams_of, bucket_calls}
use Rattle.srm_entries.specs.Runs.{EntryRight, expected_drawop, expected_state}
use Rattle.srm_entries.proofs.Arming.{ask_at}
use Rattle.srm_entries.proofs.Plain.{neither}
use Rattle.srm_entries.proofs.Quiet.{same_missing}
use Rattle.srm_entries.proofs.Silence.{no_ending}
use Rattle.srm_replays.specs.Calls.{is_empty, is_done, is_idle, acts_by, acts}
use Rattle.srm_replays.proofs.Alike.{IsStill}
use Rattle.srm_replays.proofs.Ordered.{no_plans, no_names}

-- An entry, marked with what went in it, that those before it allow.
pub record GoesOn (c : Config) (made : ℕ) (before : List Going) (x : Going) : Type 0 where
  pub right : EntryRight c made (record { before = entries_of before; this = x.entry })
  pub goes : GoesAsCharged (record { before = before; this = x })
  pub law : BucketLaw c.rate c.depth (bucket_calls c.me (before ++ x ∷ []))

-- what is done by a call that doesn't act

abbrev moves_nothing : Option Input → Bool
moves_nothing (Some (Drew page body)) = false
moves_nothing (Some (Heard g)) = false
moves_nothing (Some (Showed page)) = false
moves_nothing (Some AskedLeave) = false
moves_nothing _ = true

record Unmoved (o : Option Input) : Type 0 where
  pub heard : heard_in o ≡ None
  pub pages : pages_in o ≡ []
  pub shown : page_shown o ≡ None
  pub drawn : (c : Config) (before : List Entry) (now : ℕ) → expected_drawop c before now o ≡ None
  pub after : (old : AgentState) → expected_state old false o ≡ old

unmoved : (o : Option Input) → moves_nothing o ≡ true → Unmoved o
unmoved (Some (Drew page body)) e = absurd (cc)
unmoved (Some (Heard g)) e = absurd (cc)
unmoved (Some (Showed page)) e = absurd (cc)
unmoved (Some AskedLeave) e = absurd (cc)
unmoved _ e = record { heard = refl; pages = refl; shown = refl; drawn = λ c before now. refl; after = λ old. refl }

done_moves_nothing : (v : Verdict) (i : Input) (f : Effects) → (is_done v && acts_by i f) ≡ false → moves_nothing (done_input v i) ≡ true
done_moves_nothing (Ignored cause) i f e = refl
done_moves_nothing (Refused fault) i f e = refl
done_moves_nothing Done (Drew page body) f e = absurd (cc)
done_moves_nothing Done (Heard g) f e = absurd (cc)
done_moves_nothing Done Noise f e = refl
done_moves_nothing Done Ticked f e = refl
done_moves_nothing Done (Showed page) f e = absurd (cc)
done_moves_nothing Done AskedLeave f e = absurd (cc)
done_moves_nothing Done (Gave slot) f e = refl
done_moves_nothing Done (Took slot) f e = refl

-- a tick that doesn't act

true_of_not : (b : Bool) → not b ≡ false → b ≡ true
true_of_not true e = refl
true_of_not false e = absurd (cc)

idle_tick : (c : Config) (us : List Entry) (v : Verdict) (i : Input) (f : Effects) → is_tick i ≡ true → VerdictRight c us i v → (is_done v && acts_by i f) ≡ false → is_idle f ≡ true
idle_tick c us v Ticked f t right e = true_of_not (is_idle f) (subst (λ w. (is_done w && not (is_idle f)) ≡ false) right e)
idle_tick c us v (Drew page body) f t right e = absurd (cc)
idle_tick c us v (Heard g) f t right e = absurd (cc)
idle_tick c us v Noise f t right e = absurd (cc)
idle_tick c us v (Showed page) f t right e = absurd (cc)
idle_tick c us v AskedLeave f t right e = absurd (cc)
idle_tick c us v (Gave slot) f t right e = absurd (cc)
idle_tick c us v (Took slot) f t right e = absurd (cc)

nothing_in : {A : Type 0} (xs : List A) → is_empty xs ≡ true → xs ≡ []
nothing_in [] e = refl
nothing_in (x ∷ xs) e = absurd (cc)

record FourEmpty (f : Effects) : Type 0 where
  pub arms : f.arms ≡ []
  pub asks : f.asks ≡ []
  pub fixes : f.fixes ≡ []
  pub outs : f.outs ≡ []

four_empty : (f : Effects) → is_idle f ≡ true → FourEmpty f
four_empty f e =
    let k = four (is_empty f.arms) (is_empty f.asks) (is_empty f.fixes) (is_empty f.outs) e in
    record { arms = nothing_in f.arms k.0; asks = nothing_in f.asks k.1; fixes = nothing_in f.fixes k.2; outs = nothing_in f.outs k.3 }
  where
    four : (a b d g : Bool) → (a && b && d && g) ≡ true → (a ≡ true) × (b ≡ true) × (d ≡ true) × (g ≡ true)
    four true true true true e = (refl, refl, refl, refl)
    four true true true false e = absurd (cc)
    four true true false g e = absurd (cc)
    four true false d g e = absurd (cc)
    four false b d g e = absurd (cc)

-- a give that doesn't act brings nothing

none_there : {A : Type 0} (o : Option A) → not (is_none o) ≡ false → o ≡ None
none_there None e = refl
none_there (Some x) e = absurd (cc)

gives_nothing : (c : Config) (us : List Entry) (j : ℕ) (v : Verdict) (i : Input) (f : Effects) → VerdictRight c us i v → (is_done v && acts_by i f) ≡ false → given_in j i f.message ≡ None
gives_nothing c us j v (Gave slot) f right e =
    let none : f.message ≡ None = none_there f.message (subst (λ w. (is_done w && not (is_none f.message)) ≡ false) right e) in
    ap (λ (m : Option PageMsg). if j == slot then m else None) none ∙ sym (neither (j == slot))
gives_nothing c us j v (Drew page body) f right e = refl
gives_nothing c us j v (Heard g) f right e = refl
gives_nothing c us j v Noise f right e = refl
gives_nothing c us j v Ticked f right e = refl
gives_nothing c us j v (Showed page) f right e = refl
gives_nothing c us j v AskedLeave f right e = refl
gives_nothing c us j v (Took slot) f right e = refl

-- what is no tick asks, repairs and sends nothing, and what hears nothing either sets no timer

no_basis : (c : Config) (us : List Entry) (e : Entry) (n : FullName) → accepted e ≡ None → e.effects.drawn ≡ None → e.effects.asks ≡ [] → basis_of c us e n ≡ None
no_basis c us e n unheard undrawn unasked = go (is_held us n) refl
  where
    not_asked : asker n e ≡ None
    not_asked = ap (asker_in n) unheard

    fix : fix_basis_of c us e n ≡ None
    fix = rw not_asked (sym (neither (is_held us n && not (is_some (fix_running us n)) && not (held_off c us n e.moment))))

    exponent : (b : Bool) → is_missing us n ≡ b → ask_exponent us e n ≡ None
    exponent true m = rw (m, not_asked, unasked) refl
    exponent false m = rw (m, same_missing us e n (unheard, undrawn), m) refl

    go : (b : Bool) → is_held us n ≡ b → basis_of c us e n ≡ None
    go true h = ap (λ (b : Bool). if b then fix_basis_of c us e n else ask_basis_of c us e n) h ∙ fix
    go false h = ap (λ (b : Bool). if b then fix_basis_of c us e n else ask_basis_of c us e n) h ∙ ap (option_map (ask_at c (us ++ e ∷ []) n)) (exponent (is_missing us n) refl)

module _ (c : Config) (made : ℕ) (before : List Going) (x : Going) (on : GoesOn c made before x) where
  uncharged : (ticked x.entry && not (is_gone (state (entries_of before)))) ≡ false → charged x.entry ≡ []
  uncharged rests = sym on.goes.same ∙ ap datagrams_of (OnTrue_at (ap not rests) on.goes.at_ticks)

  sends_nothing : (ticked x.entry && not (is_gone (state (entries_of before)))) ≡ false → x.entry.effects.outs ≡ []
  sends_nothing rests =
      let none : session_message_due c made (entries_of before) x.entry ≡ None = no_ending (ticked x.entry) (is_gone (state (entries_of before))) _ rests in
      subst (EndsWith c (entries_of before) x.entry) none on.right.session ∙ uncharged rests

  four_of : accepted x.entry ≡ None → x.entry.effects.drawn ≡ None → acts x.entry ≡ false → (b : Bool) → ticked x.entry ≡ b → FourEmpty x.entry.effects
  four_of unheard undrawn idle true t = four_empty x.entry.effects (idle_tick c (entries_of before) x.entry.verdict x.entry.input x.entry.effects t on.right.verdict idle)
  four_of unheard undrawn idle false t =
      let unasked : x.entry.effects.asks ≡ [] = no_names _ x.entry.effects.asks on.right.timers.asks (λ n. ap (λ b. b && ask_due (entries_of before) n x.entry.moment) t) in
      record {
        arms = no_plans _ x.entry.effects.arms on.right.arms.are (λ n. no_basis c (entries_of before) x.entry n unheard undrawn unasked);
        asks = unasked;
        fixes = no_names _ x.entry.effects.fixes on.right.timers.fixes (λ n. ap (λ b. b && fix_due (entries_of before) n x.entry.moment) t);
        outs = sends_nothing (ap (λ b. b && not (is_gone (state (entries_of before)))) t);
      }

  pub still : acts x.entry ≡ false → IsStill (entries_of before) x.entry
  still idle =
      let u = unmoved (done x.entry) (done_moves_nothing x.entry.verdict x.entry.input x.entry.effects idle) in
      let undrawn : x.entry.effects.drawn ≡ None = on.right.drawn ∙ u.drawn c (entries_of before) x.entry.moment in
      let f = four_of u.heard undrawn idle (ticked x.entry) refl in
      record {
        unheard = u.heard;
        drawn = undrawn;
        arms = f.arms;
        asks = f.asks;
        fixes = f.fixes;
        outs = f.outs;
        after = on.right.state ∙ ap (λ gs. expected_state (state (entries_of before)) (list_any is_farewell gs) (done x.entry)) f.outs ∙ u.after (state (entries_of before));
        pages = u.pages;
        shown = u.shown;
        message = λ j. gives_nothing c (entries_of before) j x.entry.verdict x.entry.input x.entry.effects on.right.verdict idle;
      }
