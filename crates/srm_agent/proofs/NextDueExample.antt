-- When a tick next does something: for a new member, for one that has drawn, and for one that is gone.
use Rattle.std.proofs.Common.{◌≡◌, ℕ, ◌<◌, true, false, not, ◌||◌, List, [], ◌∷◌, refl, ap, sym, ◌∙◌, subst, arith, lit≤}
use Rattle.std.specs.Prelude.{Some, None, nat_le, if◌then◌else◌}
use Rattle.std.proofs.lemmas.Bool.Decides.{nat_tests}
use Rattle.srm_names.specs.FullName.{FullName}
use Rattle.srm_names.specs.Names.{first_page, named}
use Rattle.srm_codec.specs.declared.datagram.Datagram.TheVariants.{Session}
use Rattle.srm_bucket.specs.Law.{BucketLaw}
use Rattle.srm_entries.specs.declared.entry.Entry.{Entry}
use Rattle.srm_entries.specs.declared.state.AgentState.TheVariants.{Active, Leaving, Gone}
use Rattle.srm_entries.specs.declared.entry.Input.{Input}
use Rattle.srm_entries.specs.declared.entry.Input.TheVariants.{Drew, Ticked, AskedLeave}
use Rattle.srm_entries.specs.Entries.{is_missing, is_tick}
use Rattle.srm_entries.specs.Sessions.{SessionRight, EndsWith, session_message_due, charged}
use Rattle.srm_entries.specs.Bucket.{Going, idle, GoesAsCharged, entries_of, datagrams_of, bucket_calls}
use Rattle.srm_entries.specs.Runs.{EntryRight, IsMemberRun}
use Rattle.srm_entries.proofs.Parting.{tick_draws_nothing}
use Rattle.srm_entries.proofs.Rating.{not_nil, rate_law}
use Rattle.srm_names.specs.Histories.{steps}
use Rattle.std.specs.List.{AllByRecursion}
use Rattle.srm_entries.specs.Promises.{MayDoNothing, IsNextDue}
use Rattle.srm_agent.proofs.NextDueRests.{gone_rests, idle_rests}
use Rattle.srm_agent.proofs.NextDueStirs.{nothing_went}
use Rattle.srm_entries.specs.Sample.{first_stream, config}
use Rattle.srm_entries.proofs.Plain.{plain, idle_right, right, missing_none, unknown_unmissed}

-- a new member: its first session message is due after a second

abbrev tick : ℕ → Entry
tick now = plain 0 now Ticked None [] None Active

missing_ticked : (now : ℕ) (n : FullName) → is_missing (tick now ∷ []) n ≡ false
missing_ticked now n = unknown_unmissed (tick now ∷ []) n refl

too_early : (now : ℕ) → now < 1000000 → SessionRight (config 0) 0 [] (tick now)
too_early now l = subst (λ o. EndsWith (config 0) [] (tick now) o) (sym (ap (λ b. if b then Some false else None) (test now l))) refl
  where
    test : (now : ℕ) → now < 1000000 → nat_le 1000000 now ≡ false
    test now l = grind (arith, nat_tests)

nothing_waits : (now : ℕ) → BucketLaw 8000 4204 (bucket_calls 0 (idle (tick now) ∷ []))
nothing_waits now = (record { in_order = λ class. ([], refl); highest_first = tt; not_too_much = (omega arith, omega arith, tt); all_that_may = tt }, tt)

idle_before : (now : ℕ) → now < 1000000 → MayDoNothing (config 0) 0 [] now
idle_before now l = (
  tick now,
  refl,
  refl,
  record { asks = refl; fixes = refl; outs = refl },
  record {
    each = (right (config 0) 0 [] 0 now Ticked None [] None Active missing_none (missing_ticked now) (λ n. refl) (λ n. refl) refl (omega arith) refl refl tt tt tt (too_early now l) refl refl, tt);
    bucket = (idle (tick now) ∷ [], refl, (idle_right refl, tt), nothing_waits now);
  },
)

ends_with_one : (e : Entry) → e.input ≡ Ticked → e.moment ≡ 1000000 → session_message_due (config 0) 0 [] e ≡ Some false
ends_with_one e i m =
    ap (λ (input : Input). if not (is_tick input) || false then None else if nat_le 1000000 e.moment then Some false else None) i
    ∙ ap (λ now. if nat_le 1000000 now then Some false else None) m

then_a_message : MayDoNothing (config 0) 0 [] 1000000 → ⊥
then_a_message (e, input, moment, nothing, run) =
    let (g, is, message) = subst (λ o. EndsWith (config 0) [] e o) (ends_with_one e input moment) run.each.0.session in
    not_nil (charged e) [] g (sym nothing.outs ∙ is)

due_after_a_second : IsNextDue (config 0) 0 [] (Some 1000000)
due_after_a_second = (refl, lit≤ tt, (λ now l u. (idle_before now u, idle_rests (config 0) 0 [] now (idle_before now u))), then_a_message)

-- a member that has drawn: its data is due at once

abbrev drawn : Entry
drawn = plain 0 5 (Drew first_page []) (Some (record { name = named first_stream 1; stamp = 5; body = [] })) [] None Active

-- an entry that charges nothing is marked with nothing
unmarked : (x : Going) (e : Entry) → x.entry ≡ e → datagrams_of x.goes ≡ charged x.entry → charged e ≡ [] → x ≡ idle e
unmarked x e p same none = ap (λ en. record { entry = en; goes = x.goes }) p ∙ ap (λ goes. record { entry = e; goes = goes }) (nothing_went x.goes (same ∙ ap charged p ∙ none))

two_unmarked : (gs : List Going) (a b : Entry) → entries_of gs ≡ a ∷ b ∷ [] → AllByRecursion GoesAsCharged (steps gs) → charged a ≡ [] → charged b ≡ [] → gs ≡ idle a ∷ idle b ∷ []
two_unmarked [] a b q all m n = absurd (cc)
two_unmarked (x ∷ []) a b q all m n = absurd (cc)
two_unmarked (x ∷ y ∷ []) a b q all m n =
    let p : x.entry ≡ a = cc in
    let r : y.entry ≡ b = cc in
    ap (λ z. z ∷ y ∷ []) (unmarked x a p all.0.same m) ∙ ap (λ z. idle a ∷ z ∷ []) (unmarked y b r all.1.0.same n)
two_unmarked (x ∷ y ∷ z ∷ gs) a b q all m n = absurd (cc)

-- a tick that requests, repairs and sends nothing
abbrev idle_tick : Entry → Entry
idle_tick e = record {
  member = e.member;
  moment = 5;
  input = Ticked;
  verdict = e.verdict;
  effects = record { drawn = None; arms = e.effects.arms; asks = []; fixes = []; outs = []; message = e.effects.message; state = e.effects.state };
}

is_idle_tick : (e : Entry) → e.input ≡ Ticked → e.moment ≡ 5 → e.effects.asks ≡ [] → e.effects.fixes ≡ [] → e.effects.outs ≡ [] → e.effects.drawn ≡ None → e ≡ idle_tick e
is_idle_tick e i m a f o d =
    ap (λ w. record e { input = w }) i
    ∙ ap (λ w. record e { input = Ticked; moment = w }) m
    ∙ ap (λ w. record e { input = Ticked; moment = 5; effects = record e.effects { asks = w } }) a
    ∙ ap (λ w. record e { input = Ticked; moment = 5; effects = record e.effects { asks = []; fixes = w } }) f
    ∙ ap (λ w. record e { input = Ticked; moment = 5; effects = record e.effects { asks = []; fixes = []; outs = w } }) o
    ∙ ap (λ w. record e { input = Ticked; moment = 5; effects = record e.effects { asks = []; fixes = []; outs = []; drawn = w } }) d

-- a full bucket lets the drawop go, so such a tick isn't right
not_kept_back : (e : Entry) → IsMemberRun (config 0) 0 (drawn ∷ idle_tick e ∷ []) → ⊥
not_kept_back e run =
    let kept = rate_law (config 0) 0 (drawn ∷ idle_tick e ∷ []) run in
    let marks = two_unmarked kept.goings drawn (idle_tick e) kept.entries kept.outs refl refl in
    too_much (kept.each (idle drawn ∷ []) [] (idle (idle_tick e)) marks).all_that_may
  where
    too_much : 4204000000 < 27000000 → ⊥
    too_much l = absurd (omega arith)

data_goes : MayDoNothing (config 0) 0 (drawn ∷ []) 5 → ⊥
data_goes (e, input, moment, nothing, run) =
    let right : EntryRight (config 0) 0 (record { before = drawn ∷ []; this = e }) = run.each.1.0 in
    let none = tick_draws_nothing (config 0) 0 (drawn ∷ []) e right (ap is_tick input) in
    not_kept_back e (subst (λ w. IsMemberRun (config 0) 0 (drawn ∷ w ∷ [])) (is_idle_tick e input moment nothing.asks nothing.fixes nothing.outs none) run)

due_at_once : IsNextDue (config 0) 0 (drawn ∷ []) (Some 5)
due_at_once = (refl, lit≤ tt, (λ now l u. absurd (omega arith)), data_goes)

-- a member that is gone has nothing due any more
abbrev gone : List Entry
gone = plain 0 20 AskedLeave None [] None Leaving ∷ plain 0 21 Ticked None (Session 0 21 true first_page [] [] ∷ []) None Gone ∷ []

never_again : IsNextDue (config 0) 0 gone None
never_again = (refl, λ now. gone_rests (config 0) 0 gone now refl)
