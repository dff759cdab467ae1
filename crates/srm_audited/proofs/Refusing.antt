-- Records that members of an honest run wrote aren't refused; where they tell all that was sent, they are found honest.
use Rattle.std.proofs.Common.{◌≡◌, ℕ, ◌==◌, ◌≤◌, ◌<◌, Bool, true, false, List, [], ◌∷◌, length, refl, ap, sym, ◌∙◌, subst, inl, inr, arith}
use Rattle.std.specs.Prelude.{◌⊎◌, Option, Some, None, option_map, unwrap_or, IsSome}
use Rattle.std.specs.List.{AllByRecursion, flat_map}
use Rattle.std.proofs.lemmas.Bool.{cases_lt, eqb-true}
use Rattle.std.proofs.lemmas.List.{length-map}
use Rattle.srm_names.proofs.Lists.{All-Has, find-Has, all_by, by_place}
use Rattle.srm_entries.specs.declared.entry.Entry.{Entry}
use Rattle.srm_entries.specs.Entries.{sent}
use Rattle.srm_world.specs.declared.start.Start.{Start}
use Rattle.srm_world.specs.Traces.{Trace, Journal, of_member, IsRoster}
use Rattle.srm_world.proofs.Members.{none_of}
use Rattle.srm_frames.specs.declared.reading.Record.{Record}
use Rattle.srm_replays.specs.Law.{acting, RestsUnseen}
use Rattle.srm_replays.proofs.Unseen.{unseen_law}
use Rattle.srm_audit.specs.declared.got.Got.{Got}
use Rattle.srm_audit.specs.declared.mismatch.Mismatch.TheVariants as mismatches
use Rattle.srm_audit.specs.Audits.{InOrder, IsUnsent, AreFound}
use Rattle.srm_audit.proofs.Stuck.{no_order_law}
use Rattle.srm_gaps.specs.declared.told.Told.{Told}
use Rattle.srm_gaps.specs.Gaps.{journals_of, IsComplete, AreComplete}
use Rattle.srm_gaps.specs.Possible.{told_of, calls_told}
use Rattle.srm_gaps.specs.Retelling.{IsRunTold, TellAllSent, HasHonestOrder}
use Rattle.srm_gaps.proofs.Retelling.{unseen_in_run, refusal_law}
use Rattle.srm_gaps.proofs.Exactly.{first_told, sent_acting, unseen_of_member, order_law}
use Rattle.srm_gaps.proofs.Rostered.{BeganIn, in_roster, each_has_record, in_order, told_in_order}
use Rattle.srm_audited.specs.declared.verdict.Verdict.TheVariants.{Honest, NotHonest, Undecided}
use Rattle.srm_audited.specs.declared.verdict.Reason.{Reason}
use Rattle.srm_audited.specs.declared.verdict.Reason.TheVariants.{Untold, Roster, Foreign, Unsent}
use Rattle.srm_audited.specs.Sessions.{Replay, IsReplayOf, AreReplaysOf, gots_of, is_cut}
use Rattle.srm_audited.specs.Verdicts.{AreGiven, AreRefused, IsReason, AreUndecided, IsVerdictOf}
use Rattle.srm_audited.specs.Writers.{IsWrittenIn, AreWrittenIn, IsWrittenWhole, AreWrittenWhole, RefusedLaw, CompletenessLaw}
use Rattle.srm_audited.proofs.Writing.{tolds, as_many, IsIn, AreToldIn, told_in}
use Rattle.srm_audited.proofs.Found.{are_found, none_foreign}
use Rattle.srm_audited.proofs.Given.{are_given, none_ungiven}

-- all that was sent is told

abbrev calls_in : Option Told → List Entry
calls_in o = unwrap_or (option_map (λ (t : Told). t.journal.entries) o) []

-- the member sent what is told of it, and no more
abbrev SentAsTold : Trace → Told → Type 0
SentAsTold t u = sent (of_member u.journal.start.config.me t.entries) ≡ sent u.journal.entries

some_then : {X : Type 0} (o : Option X) (x : X) → o ≡ Some x → IsSome o
some_then o x e = subst IsSome (sym e) refl

not_some : {X : Type 0} (o : Option X) → o ≡ None → IsSome o → ⊥
not_some None e h = absurd (cc)
not_some (Some x) e h = absurd (cc)

tell_all : (t : Trace) (ps : List Replay) → AreToldIn t ps → length t.starts ≤ length (tolds ps) → AllByRecursion (SentAsTold t) (tolds ps) → TellAllSent (tolds ps) t
tell_all t ps a many silent = record { each = each; sent = λ m. of_each m (told_of (tolds ps) m) refl }
  where
    each : (m : ℕ) → m < length t.starts → IsSome (told_of (tolds ps) m)
    each m l =
        let (u, has, me) = each_has_record t.starts (tolds ps) a.as_told.run.roster a.began a.session many m l in
        some_then (told_of (tolds ps) m) u (ap (told_of (tolds ps)) (sym me) ∙ first_told (tolds ps) u a.session has)

    outside : (m : ℕ) → told_of (tolds ps) m ≡ None → ((m < length t.starts) ⊎ (length t.starts ≤ m)) → of_member m t.entries ≡ []
    outside m untold (inl l) = absurd (not_some (told_of (tolds ps) m) untold (each m l))
    outside m untold (inr l) = none_of (length t.starts) m t.entries l a.as_told.run.inside

    of_each : (m : ℕ) (o : Option Told) → told_of (tolds ps) m ≡ o → sent (of_member m t.entries) ≡ sent (calls_told (tolds ps) m)
    of_each m None untold = ap sent (outside m untold (cases_lt m (length t.starts))) ∙ ap (λ o. sent (calls_in o)) (sym untold)
    of_each m (Some u) is =
        let (has, found) = find-Has (λ (x : Told). x.journal.start.config.me == m) (tolds ps) u is in
        ap (λ k. sent (of_member k t.entries)) (sym (eqb-true u.journal.start.config.me m found)) ∙ All-Has (SentAsTold t) u (tolds ps) silent has ∙ ap (λ o. sent (calls_in o)) (sym is)

-- then nothing is unsent
all_sent : (t : Trace) (ps : List Replay) (q : List Journal) (member entry : ℕ) → AreToldIn t ps → TellAllSent (tolds ps) t → InOrder (journals_of (tolds ps)) q → ¬ (IsUnsent q member entry)
all_sent t ps q member entry a all order unsent =
    let honest : HasHonestOrder (tolds ps) = order_law (tolds ps) t a.runs a.session a.as_told all in
    no_order_law q member entry unsent honest.es honest.honest (λ m. honest.all m ∙ sym (told_in_order (tolds ps) q order m))

-- what was sent is what calls that act sent
sent_by_acting : (es fs : List Entry) → AllByRecursion RestsUnseen es → AllByRecursion RestsUnseen fs → acting es ≡ acting fs → sent es ≡ sent fs
sent_by_acting es fs all also same = sym (sent_acting es all) ∙ ap sent same ∙ sent_acting fs also

unseen_told : (u : Told) → IsRunTold u → AllByRecursion RestsUnseen u.journal.entries
unseen_told u run = unseen_law u.journal.start.config u.journal.start.made u.journal.entries run

unseen_part : (t : Trace) (m : ℕ) → AllByRecursion RestsUnseen t.entries → AllByRecursion RestsUnseen (of_member m t.entries)
unseen_part t m all = unseen_of_member m t.entries all

-- where no record is missing or cut

as_many_as_members : (starts : List Start) (ts : List Told) → IsRoster starts → AllByRecursion (BeganIn starts) ts → AreComplete ts → length starts ≤ length ts
as_many_as_members starts [] roster began (some, all) = let l : 0 < 0 = some in absurd (omega (arith, l))
as_many_as_members starts (u ∷ ts) roster began (some, all) =
    let is : u.journal.start.config.members ≡ length starts = (in_roster starts u roster began.0).members in
    let l : u.journal.start.config.members ≤ length (u ∷ ts) = all.0.1 in
    omega (arith, is, l)

sent_where_whole : (t : Trace) (n : ℕ) (ps : List Replay) → AllByRecursion RestsUnseen t.entries → AllByRecursion (IsIn t) ps → AllByRecursion (IsComplete n) (tolds ps) → AllByRecursion (SentAsTold t) (tolds ps)
sent_where_whole t n [] unseen all whole = tt
sent_where_whole t n (p ∷ ps) unseen all whole = (
  sent_by_acting (of_member p.told.journal.start.config.me t.entries) p.told.journal.entries (unseen_part t p.told.journal.start.config.me unseen) (unseen_told p.told all.0.run) (all.0.whole whole.0.0),
  sent_where_whole t n ps unseen all.1 whole.1,
)

-- no reason holds

not_foreign : (t : Trace) (ps : List Replay) (gots : List Got) (member slot : ℕ) → AreToldIn t ps → gots ≡ flat_map gots_of ps → ¬ (AreRefused (tolds ps) gots (mismatches.Foreign member slot))
not_foreign t ps gots member slot a lists (q, order, foreign) =
    none_foreign q gots member slot (subst (λ (gs : List Got). AreFound q gs) (sym lists) (are_found t ps q a.all a.session order)) foreign

no_reason : (t : Trace) (ps : List Replay) (gots : List Got) (reason : Reason) → AreToldIn t ps → gots ≡ flat_map gots_of ps → ¬ (IsReason (tolds ps) gots reason)
no_reason t ps gots (Untold place line) a lists never = never
no_reason t ps gots Roster a lists (inl (complete, refused)) =
    let (q, order) = in_order t.starts (tolds ps) a.as_told.run.roster a.began a.session (as_many_as_members t.starts (tolds ps) a.as_told.run.roster a.began complete) in refused q order
no_reason t ps gots Roster a lists (inr (incomplete, differ)) = differ a.session
no_reason t ps gots (Foreign member slot) a lists (inl (complete, refused)) = not_foreign t ps gots member slot a lists refused
no_reason t ps gots (Foreign member slot) a lists (inr (part, order, ungiven)) =
    none_ungiven (tolds ps) gots member slot (subst (AreGiven (tolds ps)) (sym lists) (are_given t ps a.all a.session)) ungiven
no_reason t ps gots (Unsent member entry) a lists (inl (complete, (q, order, found, unsent))) =
    let unseen : AllByRecursion RestsUnseen t.entries = unseen_in_run t a.as_told.run in
    all_sent t ps q member entry a
    (tell_all t ps a (as_many_as_members t.starts (tolds ps) a.as_told.run.roster a.began complete) (sent_where_whole t (length (tolds ps)) ps unseen a.all complete.1)) order unsent
no_reason t ps gots (Unsent member entry) a lists (inr (part, refused)) = refusal_law (tolds ps) member entry t a.runs refused a.as_told

of_verdict : (rs : List Record) (reason : Reason) (t : Trace) → IsVerdictOf rs (NotHonest reason) → ¬ (AreWrittenIn t rs)
of_verdict rs reason t v written =
    no_reason t v.of.replays v.gots reason (told_in t rs v.of.replays written v.of.each) v.of.lists (subst (λ (ts : List Told). IsReason ts v.gots reason) v.of.told v.on)

pub refused_law : RefusedLaw
refused_law rs (Untold place line) t v written = let w = by_place (IsWrittenIn t) rs place v.stopped written.each v.here in v.why.of_none w.spelled w.journal w.lists w.of
refused_law rs Roster t v written = of_verdict rs Roster t v written
refused_law rs (Foreign member slot) t v written = of_verdict rs (Foreign member slot) t v written
refused_law rs (Unsent member entry) t v written = of_verdict rs (Unsent member entry) t v written

-- records that tell all

written_in : (t : Trace) (rs : List Record) → AreWrittenWhole t rs → AreWrittenIn t rs
written_in t rs w = record { run = w.run; honest = w.honest; each = all_by (IsWrittenWhole t) (IsWrittenIn t) rs (λ r x. x.written) w.each; others = w.others }

sent_of : (t : Trace) (r : Record) (p : Replay) → AllByRecursion RestsUnseen t.entries → IsWrittenWhole t r → IsReplayOf r p → SentAsTold t p.told
sent_of t r p unseen w is =
    let j : Journal = w.written.journal in
    let same = is.runs w.written.spelled j w.written.lists w.written.of in
    let start : j.start ≡ p.told.journal.start = w.written.of.start ∙ sym is.start in
    let was_unseen : AllByRecursion RestsUnseen j.entries = unseen_law j.start.config j.start.made j.entries w.written.of.lawful.run in
    ap (λ (s : Start). sent (of_member s.config.me t.entries)) (sym start) ∙ which was_unseen (is_cut r.end) refl ∙ sent_by_acting j.entries p.told.journal.entries was_unseen (unseen_told p.told is.lawful.run) (sym same.0)
  where
    which : AllByRecursion RestsUnseen w.written.journal.entries → (b : Bool) → is_cut r.end ≡ b → sent (of_member w.written.journal.start.config.me t.entries) ≡ sent w.written.journal.entries
    which was_unseen true cut = w.silent cut
    which was_unseen false uncut =
        sent_by_acting (of_member w.written.journal.start.config.me t.entries) w.written.journal.entries (unseen_part t w.written.journal.start.config.me unseen) was_unseen (w.written.whole uncut)

all_sent_of : (t : Trace) (rs : List Record) (ps : List Replay) → AllByRecursion RestsUnseen t.entries → AllByRecursion (IsWrittenWhole t) rs → AreReplaysOf rs ps → AllByRecursion (SentAsTold t) (tolds ps)
all_sent_of t [] [] unseen all are = tt
all_sent_of t [] (p ∷ ps) unseen all are = absurd are
all_sent_of t (r ∷ rs) [] unseen all are = absurd are
all_sent_of t (r ∷ rs) (p ∷ ps) unseen all are = (sent_of t r p unseen all.0 are.0, all_sent_of t rs ps unseen all.1 are.1)

not_undecided : (t : Trace) (rs : List Record) (ps : List Replay) (gots : List Got) → AreWrittenWhole t rs → AreReplaysOf rs ps → ¬ (AreUndecided (tolds ps) gots)
not_undecided t rs ps gots w are undecided = go undecided.refused
  where
    told : AreToldIn t ps
    told = told_in t rs ps (written_in t rs w) are

    many : length t.starts ≤ length (tolds ps)
    many = let count : length (tolds ps) ≡ length ps = length-map ps (λ (p : Replay). p.told) in let same : length ps ≡ length rs = as_many rs ps are in let all : length t.starts ≤ length rs = w.all in omega (arith, count, same, all)

    go : (AreRefused (tolds ps) gots mismatches.Roster ⊎ ((m : ℕ) × (n : ℕ) × AreRefused (tolds ps) gots (mismatches.Unsent m n))) → ⊥
    go (inl refused) = let (q, order) = in_order t.starts (tolds ps) told.as_told.run.roster told.began told.session many in refused q order
    go (inr (m, n, (q, order, found, unsent))) =
        all_sent t ps q m n told (tell_all t ps told many (all_sent_of t rs ps (unseen_in_run t told.as_told.run) w.each are)) order unsent

pub completeness_law : CompletenessLaw
completeness_law rs (Honest found) t v w = (found, refl)
completeness_law rs (NotHonest reason) t v w = absurd (refused_law rs reason t v (written_in t rs w))
completeness_law rs Undecided t v w = absurd (not_undecided t rs v.of.replays v.gots w v.of.each (subst (λ (ts : List Told). AreUndecided ts v.gots) v.of.told v.on))
