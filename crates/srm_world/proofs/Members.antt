-- The entries of one member in a trace, and the run that they are.
use Rattle.std.proofs.Common.{◌≡◌, ℕ, zero, suc, ◌==◌, ◌+◌, ◌≤◌, ◌<◌, false, List, [], ◌∷◌, ◌++◌, length, refl, ap, ◌∙◌, subst, inl, inr, arith, eq-eqb}
use Rattle.std.specs.Prelude.{◌⊎◌, Some, cond, nat_le, slice_get}
use Rattle.std.specs.List.{AllByRecursion, enumerate_from}
use Rattle.std.proofs.lemmas.Bool.{cases_lt, ne_eqb}
use Rattle.std.proofs.lemmas.Bool.Decides.{nat_tests}
use Rattle.std.proofs.lemmas.List.Elements.{filter-append}
use Rattle.srm_names.proofs.Lists.{Has, Has-kept, All-Has, all_by}
use Rattle.srm_entries.specs.declared.entry.Entry.{Entry}
use Rattle.srm_entries.specs.Configs.{Config}
use Rattle.srm_entries.specs.Runs.{IsMemberRun}
use Rattle.srm_entries.proofs.Cutting.{run_part}
use Rattle.srm_entries.proofs.Responding.{response_law}
use Rattle.srm_entries.proofs.Given.{gives_law}
use Rattle.srm_entries.proofs.Rating.{rate_law}
use Rattle.srm_world.specs.declared.start.Start.{Start}
use Rattle.srm_world.specs.Traces.{Trace, of_member, IsAtPlace, IsRunOfMember, IsRunOf, IsRun}
use Rattle.srm_world.specs.Claims.{RespondsEach, RespondsByItself, GivesEach, GivesByItself, KeepsRateEach, KeepsRateByItself}

-- the entries of the member are a run
pub record MemberRun (m : ℕ) (es : List Entry) : Type 0 where
  pub config : Config
  pub made : ℕ
  pub me : config.me ≡ m
  pub inside : nat_le config.members config.me ≡ false
  pub run : IsMemberRun config made (of_member m es)

below : (a b n k : ℕ) → a ≡ n → b ≡ k → k < n → nat_le a b ≡ false
below a b n k p q l = grind (arith, nat_tests)

member_at : (es : List Entry) (starts : List Start) (from k many : ℕ) → k < length starts → from + k < many
    → AllByRecursion (IsAtPlace many) (enumerate_from from starts) → AllByRecursion (IsRunOfMember es) starts → MemberRun (from + k) es
member_at es [] from k many l u roster each = absurd (omega arith)
member_at es (a ∷ starts) from zero many l u roster each =
    let me : a.config.me ≡ from + 0 = roster.0.0 ∙ omega arith in
    record { config = a.config; made = a.made; me = me; inside = below a.config.members a.config.me many (from + 0) roster.0.1 me u; run = subst (λ m. IsMemberRun a.config a.made (of_member m es)) me each.0 }
member_at es (a ∷ starts) from (suc k) many l u roster each =
    subst (λ m. MemberRun m es) (omega arith) (member_at es starts (from + 1) k many (omega arith) (omega arith) roster.1 each.1)

pub member_run : (starts : List Start) (es : List Entry) (m : ℕ) → IsRunOf starts es → m < length starts → MemberRun m es
member_run starts es m run l = subst (λ w. MemberRun w es) (omega arith) (member_at es starts 0 m (length starts) l (omega arith) run.roster.places run.each)

pub none_of : (n m : ℕ) (es : List Entry) → n ≤ m → AllByRecursion (λ (e : Entry). e.member < n) es → of_member m es ≡ []
none_of n m [] l all = refl
none_of n m (e ∷ es) l all =
    let k : e.member < n = all.0 in
    ap (λ b. cond b (e ∷ of_member m es) (of_member m es)) (ne_eqb e.member m (λ (q : e.member ≡ m). omega arith)) ∙ none_of n m es l all.1

-- a member has a run, or no entries
pub run_or_none : (starts : List Start) (es : List Entry) (m : ℕ) → IsRunOf starts es → MemberRun m es ⊎ (of_member m es ≡ [])
run_or_none starts es m run = elim (cases_lt m (length starts)) [
  | inl l ↦ inl (member_run starts es m run l)
  | inr l ↦ inr (none_of (length starts) m es l run.inside)
]

-- the member of an entry has a run
pub run_of_entry : (starts : List Start) (es : List Entry) (e : Entry) → IsRunOf starts es → Has e es → MemberRun e.member es
run_of_entry starts es e run h = member_run starts es e.member run (All-Has (λ (x : Entry). x.member < length starts) e es run.inside h)

-- and so far it is a run too
pub run_so_far : (m : ℕ) (xs ys : List Entry) → MemberRun m (xs ++ ys) → MemberRun m xs
run_so_far m xs ys r = record {
  config = r.config;
  made = r.made;
  me = r.me;
  inside = r.inside;
  run = run_part r.config r.made (of_member m xs) (of_member m ys) (subst (λ w. IsMemberRun r.config r.made w) (filter-append (λ (e : Entry). e.member == m) xs ys) r.run);
}

pub Has-of_member : (e : Entry) (es : List Entry) → Has e es → Has e (of_member e.member es)
Has-of_member e es h = Has-kept (λ (x : Entry). x.member == e.member) e es (eq-eqb e.member e.member refl) h

pub of_member-append : (m : ℕ) (xs ys : List Entry) → of_member m (xs ++ ys) ≡ of_member m xs ++ of_member m ys
of_member-append m xs ys = filter-append (λ (e : Entry). e.member == m) xs ys

-- one more entry of this member
pub of_member-own : (m : ℕ) (xs : List Entry) (e : Entry) → e.member ≡ m → of_member m (xs ++ e ∷ []) ≡ of_member m xs ++ e ∷ []
of_member-own m xs e q = of_member-append m xs (e ∷ []) ∙ ap (λ b. of_member m xs ++ cond b (e ∷ []) []) (eq-eqb e.member m q)

-- members that are each at its place
pub places_from : (starts : List Start) (from many : ℕ) → ((k : ℕ) (a : Start) → slice_get starts k ≡ Some a → (a.config.me ≡ from + k) × (a.config.members ≡ many)) → AllByRecursion (IsAtPlace many) (enumerate_from from starts)
places_from [] from many h = tt
places_from (a ∷ starts) from many h =
    let first = h 0 a refl in
    ((first.0 ∙ omega arith, first.1), places_from starts (from + 1) many (λ k b at. let q = h (suc k) b at in (q.0 ∙ omega arith, q.1)))

-- what holds of the run of a member holds of each member

pub responds_each : (t : Trace) → IsRun t → RespondsEach t
responds_each t r = all_by (IsRunOfMember t.entries) (RespondsByItself t.entries) t.starts (λ (a : Start) run. response_law a.config a.made (of_member a.config.me t.entries) run) r.each

pub gives_each : (t : Trace) → IsRun t → GivesEach t
gives_each t r = all_by (IsRunOfMember t.entries) (GivesByItself t.entries) t.starts (λ (a : Start) run. gives_law a.config a.made (of_member a.config.me t.entries) run) r.each

pub keeps_rate_each : (t : Trace) → IsRun t → KeepsRateEach t
keeps_rate_each t r = all_by (IsRunOfMember t.entries) (KeepsRateByItself t.entries) t.starts (λ (a : Start) run. rate_law a.config a.made (of_member a.config.me t.entries) run) r.each
