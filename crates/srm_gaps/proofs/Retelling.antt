-- A run whose members did what is told goes on from what is told: its order with the replays in place of what they did.
use Rattle.std.proofs.Common.{◌≡◌, ◌≢◌, ℕ, ◌==◌, Bool, true, false, List, [], ◌∷◌, ◌++◌, refl, ap, sym, ◌∙◌, subst, inl, inr}
use Rattle.std.specs.Prelude.{Option, Some, None, option_map, unwrap_or, if◌then◌else◌}
use Rattle.std.specs.List.{AllByRecursion}
use Rattle.std.proofs.lemmas.Bool.{eqb-true, eq-eqb}
use Rattle.std.proofs.lemmas.List.{append-nil}
use Rattle.std.proofs.lemmas.Option.{none-some, same_Some}
use Rattle.srm_names.specs.Histories.{IsPrefix, steps_after}
use Rattle.srm_names.proofs.Lists.{Has, All-Has, all_by}
use Rattle.srm_codec.specs.Spelling.{sender_of}
use Rattle.srm_entries.specs.declared.entry.Entry.{Entry}
use Rattle.srm_entries.specs.Configs.{Config}
use Rattle.srm_entries.specs.Runs.{EntryRight}
use Rattle.srm_world.specs.Traces.{Trace, of_member, IsHonest, IsRun}
use Rattle.srm_world.proofs.Members.{MemberRun, run_of_entry, Has-of_member}
use Rattle.srm_replays.specs.Calls.{acts}
use Rattle.srm_replays.specs.Law.{acting, RestsUnseen}
use Rattle.srm_replays.proofs.Replaying.{kept, dropped}
use Rattle.srm_replays.proofs.Unseen.{unseen_law}
use Rattle.srm_gaps.specs.declared.told.Told.{Told}
use Rattle.srm_gaps.specs.Possible.{told_of, calls_told, may_miss, SendsOwn, Continues}
use Rattle.srm_gaps.specs.Retelling.{with_replays, DoAsTold, IsRunTold, AreRunsTold, RetellingLaw, RefusalLaw}
use Rattle.srm_gaps.proofs.Filling.{IsOf, same_acting, same_others, own_part, all_filled, stays_honest}

-- the calls of a record are its member's, and those that don't act can't be seen by others
pub record IsReplay (t : Told) : Type 0 where
  pub own : AllByRecursion (IsOf t.journal.start.config.me) t.journal.entries
  pub unseen : AllByRecursion RestsUnseen t.journal.entries

-- of what acts that which is a member's, and of what is a member's that which acts
pub acting_of_member : (m : ℕ) (es : List Entry) → acting (of_member m es) ≡ of_member m (acting es)
acting_of_member m [] = refl
acting_of_member m (e ∷ es) = go (e.member == m) refl (acts e) refl (acting_of_member m es)
  where
    go : (a : Bool) → (e.member == m) ≡ a → (b : Bool) → acts e ≡ b → acting (of_member m es) ≡ of_member m (acting es) → acting (of_member m (e ∷ es)) ≡ of_member m (acting (e ∷ es))
    go true p true q more =
        ap acting (kept (λ (x : Entry). x.member == m) e es p) ∙ kept acts e (of_member m es) q ∙ ap (λ w. e ∷ w) more
        ∙ sym (kept (λ (x : Entry). x.member == m) e (acting es) p) ∙ ap (of_member m) (sym (kept acts e es q))
    go true p false q more =
        ap acting (kept (λ (x : Entry). x.member == m) e es p) ∙ dropped acts e (of_member m es) q ∙ more ∙ ap (of_member m) (sym (dropped acts e es q))
    go false p true q more =
        ap acting (dropped (λ (x : Entry). x.member == m) e es p) ∙ more ∙ sym (dropped (λ (x : Entry). x.member == m) e (acting es) p) ∙ ap (of_member m) (sym (kept acts e es q))
    go false p false q more =
        ap acting (dropped (λ (x : Entry). x.member == m) e es p) ∙ more ∙ ap (of_member m) (sym (dropped acts e es q))

pub same_acting_in_all : (ts : List Told) (es : List Entry) → acting (with_replays ts es) ≡ acting es
same_acting_in_all [] es = refl
same_acting_in_all (t ∷ ts) es = same_acting t.journal.start.config.me t.journal.entries (with_replays ts es) ∙ same_acting_in_all ts es

acting_part : (ts : List Told) (es : List Entry) (m : ℕ) → acting (of_member m (with_replays ts es)) ≡ acting (of_member m es)
acting_part ts es m = acting_of_member m (with_replays ts es) ∙ ap (of_member m) (same_acting_in_all ts es) ∙ sym (acting_of_member m es)

-- what is told of a member, by the first record

pub told_first : (t : Told) (ts : List Told) (m : ℕ) (b : Bool) → (t.journal.start.config.me == m) ≡ b → told_of (t ∷ ts) m ≡ (if b then Some t else told_of ts m)
told_first t ts m b q = ap (λ (b : Bool). if b then Some t else told_of ts m) q

pub differs : (k m : ℕ) → (k == m) ≡ false → m ≢ k
differs k m q e = let same : (k == m) ≡ true = eq-eqb k m (sym e) in absurd (cc)

untold_part : (ts : List Told) (es : List Entry) (m : ℕ) → AllByRecursion IsReplay ts → told_of ts m ≡ None → of_member m (with_replays ts es) ≡ of_member m es
untold_part [] es m all none = refl
untold_part (t ∷ ts) es m all none = go (t.journal.start.config.me == m) refl (untold_part ts es m all.1)
  where
    go : (b : Bool) → (t.journal.start.config.me == m) ≡ b → (told_of ts m ≡ None → of_member m (with_replays ts es) ≡ of_member m es) → of_member m (with_replays (t ∷ ts) es) ≡ of_member m es
    go true q more = absurd (none-some t (sym none ∙ told_first t ts m true q))
    go false q more =
        same_others t.journal.start.config.me m t.journal.entries (with_replays ts es) (differs t.journal.start.config.me m q) all.0.own ∙ more (sym (told_first t ts m false q) ∙ none)

told_part : (ts : List Told) (es : List Entry) (m : ℕ) (t : Told) (rest : List Entry) → AllByRecursion IsReplay ts → told_of ts m ≡ Some t → acting t.journal.entries ++ rest ≡ acting (of_member m es)
    → of_member m (with_replays ts es) ≡ t.journal.entries ++ rest
told_part [] es m t rest all is did = absurd (none-some t is)
told_part (s ∷ ts) es m t rest all is did = go (s.journal.start.config.me == m) refl (told_part ts es m t rest all.1)
  where
    go : (b : Bool) → (s.journal.start.config.me == m) ≡ b → (told_of ts m ≡ Some t → acting t.journal.entries ++ rest ≡ acting (of_member m es) → of_member m (with_replays ts es) ≡ t.journal.entries ++ rest)
        → of_member m (with_replays (s ∷ ts) es) ≡ t.journal.entries ++ rest
    go true q more =
        let same : s ≡ t = same_Some s t (sym (told_first s ts m true q) ∙ is) in
        let me : s.journal.start.config.me ≡ m = eqb-true s.journal.start.config.me m q in
        let part : acting s.journal.entries ++ rest ≡ acting (of_member s.journal.start.config.me (with_replays ts es)) =
        ap (λ (x : Told). acting x.journal.entries ++ rest) same ∙ did ∙ sym (acting_part ts es m) ∙ ap (λ n. acting (of_member n (with_replays ts es))) (sym me) in
        ap (λ n. of_member n (with_replays (s ∷ ts) es)) (sym me) ∙ own_part s.journal.start.config.me s.journal.entries (with_replays ts es) rest all.0.own part ∙ ap (λ (x : Told). x.journal.entries ++ rest) same
    go false q more =
        same_others s.journal.start.config.me m s.journal.entries (with_replays ts es) (differs s.journal.start.config.me m q) all.0.own ∙ more (sym (told_first s ts m false q) ∙ is) did

-- the order stays honest, and each member's part begins with its replay

idle_own : (rs : List Entry) → AllByRecursion RestsUnseen rs → AllByRecursion (λ (r : Entry). acts r ≡ false → SendsOwn r) rs
idle_own rs all = all_by RestsUnseen (λ (r : Entry). acts r ≡ false → SendsOwn r) rs (λ r f q. subst (AllByRecursion (λ g. sender_of g ≡ r.member)) (sym (f q).sent) tt) all

own_in_all : (ts : List Told) (es : List Entry) → AllByRecursion IsReplay ts → AllByRecursion SendsOwn es → AllByRecursion SendsOwn (with_replays ts es)
own_in_all [] es all own = own
own_in_all (t ∷ ts) es all own = all_filled SendsOwn t.journal.start.config.me t.journal.entries (with_replays ts es) (idle_own t.journal.entries all.0.unseen) (own_in_all ts es all.1 own)

pub unseen_put : (rs : List Entry) → AllByRecursion RestsUnseen rs → AllByRecursion (λ (r : Entry). acts r ≡ false → RestsUnseen r) rs
unseen_put rs all = all_by RestsUnseen (λ (r : Entry). acts r ≡ false → RestsUnseen r) rs (λ r f q. f) all

unseen_in_all : (ts : List Told) (es : List Entry) → AllByRecursion IsReplay ts → AllByRecursion RestsUnseen es → AllByRecursion RestsUnseen (with_replays ts es)
unseen_in_all [] es all rests = rests
unseen_in_all (t ∷ ts) es all rests = all_filled RestsUnseen t.journal.start.config.me t.journal.entries (with_replays ts es) (unseen_put t.journal.entries all.0.unseen) (unseen_in_all ts es all.1 rests)

honest_in_all : (ts : List Told) (es : List Entry) → AllByRecursion IsReplay ts → AllByRecursion RestsUnseen es → IsHonest es → IsHonest (with_replays ts es)
honest_in_all [] es all rests honest = honest
honest_in_all (t ∷ ts) es all rests honest =
    stays_honest t.journal.start.config.me t.journal.entries (with_replays ts es) all.0.unseen (unseen_in_all ts es all.1 rests) (honest_in_all ts es all.1 rests honest)

-- of a member
abbrev calls_in : Option Told → List Entry
calls_in o = unwrap_or (option_map (λ (t : Told). t.journal.entries) o) []

abbrev misses_in : Option Told → Bool
misses_in o = unwrap_or (option_map (λ (t : Told). t.is_cut) o) true

pub continues : (ts : List Told) (es : List Entry) → AllByRecursion IsReplay ts → AllByRecursion RestsUnseen es → AllByRecursion SendsOwn es → IsHonest es → DoAsTold ts es → Continues ts (with_replays ts es)
continues ts es all rests own honest did = record {
  honest = honest_in_all ts es all rests honest;
  own = own_in_all ts es all own;
  front = λ m. front m (told_of ts m) refl;
  whole = λ m w. whole m w (told_of ts m) refl;
}
  where
    front : (m : ℕ) (o : Option Told) → told_of ts m ≡ o → IsPrefix (calls_told ts m) (of_member m (with_replays ts es))
    front m None none = (of_member m (with_replays ts es), ap (λ o. calls_in o ++ of_member m (with_replays ts es)) none)
    front m (Some t) is =
        let (rest, begins) = did.front m in
        let part : acting t.journal.entries ++ rest ≡ acting (of_member m es) = ap (λ o. acting (calls_in o) ++ rest) (sym is) ∙ begins in
        (rest, ap (λ o. calls_in o ++ rest) is ∙ sym (told_part ts es m t rest all is part))

    whole : (m : ℕ) → may_miss ts m ≡ false → (o : Option Told) → told_of ts m ≡ o → of_member m (with_replays ts es) ≡ calls_told ts m
    whole m w None none = let bad : true ≡ false = ap misses_in (sym none) ∙ w in absurd (cc)
    whole m w (Some t) is =
        let part : acting t.journal.entries ++ [] ≡ acting (of_member m es) = append-nil (acting t.journal.entries) ∙ ap (λ o. acting (calls_in o)) (sym is) ∙ sym (did.whole m w) in
        told_part ts es m t [] all is part ∙ append-nil t.journal.entries ∙ ap calls_in (sym is)

-- of runs

own_calls : (c : Config) (made : ℕ) (before es : List Entry) → AllByRecursion (EntryRight c made) (steps_after before es) → AllByRecursion (IsOf c.me) es
own_calls c made before [] all = tt
own_calls c made before (e ∷ es) all = (all.0.member, own_calls c made (before ++ e ∷ []) es all.1)

own_sends : (c : Config) (made : ℕ) (before es : List Entry) → AllByRecursion (EntryRight c made) (steps_after before es) → AllByRecursion SendsOwn es
own_sends c made before [] all = tt
own_sends c made before (e ∷ es) all = (subst (λ (k : ℕ). AllByRecursion (λ g. sender_of g ≡ k) e.effects.outs) (sym all.0.member) all.0.senders, own_sends c made (before ++ e ∷ []) es all.1)

pub replays_are : (ts : List Told) → AreRunsTold ts → AllByRecursion IsReplay ts
replays_are ts all = all_by IsRunTold IsReplay ts
    (λ t run. record {
      own = own_calls t.journal.start.config t.journal.start.made [] t.journal.entries run.each;
      unseen = unseen_law t.journal.start.config t.journal.start.made t.journal.entries run;
    }) all

-- what holds of each call of each member's run holds of each of the whole run
in_run : (P : Entry → Type 0) (t : Trace) → IsRun t → ((m : ℕ) → MemberRun m t.entries → AllByRecursion P (of_member m t.entries)) → (es : List Entry) → ((e : Entry) → Has e es → Has e t.entries) → AllByRecursion P es
in_run P t run each [] there = tt
in_run P t run each (e ∷ es) there =
    let here : Has e t.entries = there e (inl refl) in (
      All-Has P e (of_member e.member t.entries) (each e.member (run_of_entry t.starts t.entries e run here)) (Has-of_member e t.entries here),
      in_run P t run each es (λ x h. there x (inr h)),
    )

pub unseen_in_run : (t : Trace) → IsRun t → AllByRecursion RestsUnseen t.entries
unseen_in_run t run = in_run RestsUnseen t run (λ m r. unseen_law r.config r.made (of_member m t.entries) r.run) t.entries (λ e h. h)

own_in_run : (t : Trace) → IsRun t → AllByRecursion SendsOwn t.entries
own_in_run t run = in_run SendsOwn t run (λ m r. own_sends r.config r.made [] (of_member m t.entries) r.run.each) t.entries (λ e h. h)

pub retelling_law : RetellingLaw
retelling_law ts t told as_told = (
  continues ts t.entries (replays_are ts told) (unseen_in_run t as_told.run) (own_in_run t as_told.run) as_told.honest as_told.did,
  same_acting_in_all ts t.entries,
)

pub refusal_law : RefusalLaw
refusal_law ts member entry t told refused as_told = refused.1 (with_replays ts t.entries) (retelling_law ts t told as_told).0
