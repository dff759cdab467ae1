-- A member sends nothing by an entry that is no tick, and nothing once it is gone.
use Rattle.std.proofs.Common.{arith, ◌≡◌, ℕ, Bool, true, false, not, ◌||◌, List, [], ◌∷◌, ◌++◌, refl, ap, sym, ◌∙◌, subst}
use Rattle.std.specs.Prelude.{Option, Some, None, if◌then◌else◌, nat_le, ◌&&◌}
use Rattle.std.specs.List.{AllByRecursion}
use Rattle.std.proofs.lemmas.Bool.{OnTrue_at, and_right}
use Rattle.srm_names.specs.Histories.{steps, steps_after}
use Rattle.srm_names.proofs.Lists.{at_parts, map-split}
use Rattle.srm_entries.specs.Configs.{Config}
use Rattle.srm_entries.specs.declared.entry.Entry.{Entry}
use Rattle.srm_entries.specs.Entries.{ticked, state, is_gone, is_leaving}
use Rattle.srm_entries.specs.Sessions.{charged, session_message_due, EndsWith, all_data_sent, session_due}
use Rattle.srm_entries.specs.Bucket.{Going, GoesAsCharged, BucketRight, entries_of, datagrams_of}
use Rattle.srm_entries.specs.Runs.{EntryRight, IsMemberRun}

-- an entry that is no tick, or one of a member that is gone
not_charged : (us : List Going) (x : Going) → GoesAsCharged (record { before = us; this = x }) → (ticked x.entry && not (is_gone (state (entries_of us)))) ≡ false → charged x.entry ≡ []
not_charged us x right rests =
    let none : x.goes ≡ [] = OnTrue_at (ap not rests) right.at_ticks in
    sym right.same ∙ ap datagrams_of none

charged_none : (c : Config) (before after : List Entry) (e : Entry) → BucketRight c (before ++ e ∷ after) → (ticked e && not (is_gone (state before))) ≡ false → charged e ≡ []
charged_none c before after e (gs, q, all, law) rests =
    let (us, vs, p, r, t) = map-split (λ (g : Going). g.entry) gs before (e ∷ after) q in
    from us vs r t (at_parts GoesAsCharged us vs (subst (λ w. AllByRecursion GoesAsCharged (steps w)) p all)).1
  where
    head : {y z : Entry} {ys zs : List Entry} → y ∷ ys ≡ z ∷ zs → y ≡ z
    head e = cc

    from : (us vs : List Going) → entries_of us ≡ before → entries_of vs ≡ e ∷ after → AllByRecursion GoesAsCharged (steps_after us vs) → charged e ≡ []
    from us [] r t all = absurd (grind arith)
    from us (x ∷ vs) r t all = subst (λ w. charged w ≡ []) (head t) (not_charged us x all.0
        (ap (λ w. ticked x.entry && not (is_gone (state w))) r ∙ ap (λ w. ticked w && not (is_gone (state before))) (head t) ∙ rests))

pub no_ending : (t gone : Bool) (x : Option Bool) → (t && not gone) ≡ false → (if not t || gone then None else x) ≡ None
no_ending true true x e = refl
no_ending false gone x e = refl
no_ending true false x e = absurd (cc)

pub resting_sends_nothing : (c : Config) (made : ℕ) (before after : List Entry) (e : Entry) → IsMemberRun c made (before ++ e ∷ after) → (ticked e && not (is_gone (state before))) ≡ false → e.effects.outs ≡ []
resting_sends_nothing c made before after e run rests =
    let right : EntryRight c made (record { before = before; this = e }) = (at_parts (EntryRight c made) before (e ∷ after) run.each).1.0 in
    let none : session_message_due c made before e ≡ None = no_ending (ticked e) (is_gone (state before))
    (if is_leaving (state before) && all_data_sent (before ++ e ∷ []) then Some true else if nat_le (session_due c made before) e.moment then Some false else None) rests in
    subst (EndsWith c before e) none right.session ∙ charged_none c before after e run.bucket rests

pub gone_sends_nothing : (c : Config) (made : ℕ) (before after : List Entry) (e : Entry) → IsMemberRun c made (before ++ e ∷ after) → is_gone (state before) ≡ true → e.effects.outs ≡ []
gone_sends_nothing c made before after e run gone = resting_sends_nothing c made before after e run (ap (λ b. ticked e && not b) gone ∙ and_right (ticked e) false refl)

pub unticked_sends_nothing : (c : Config) (made : ℕ) (before : List Entry) (e : Entry) → IsMemberRun c made (before ++ e ∷ []) → ticked e ≡ false → e.effects.outs ≡ []
unticked_sends_nothing c made before e run still = resting_sends_nothing c made before [] e run (ap (λ b. b && not (is_gone (state before))) still)
