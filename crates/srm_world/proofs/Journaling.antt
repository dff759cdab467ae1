-- What a call of the agent makes of the journal.
use Rattle.std.proofs.Common.{◌≡◌, ℕ, ◌≤◌, Bool, true, false, List, [], ◌∷◌, ◌++◌, refl, ap, sym, ◌∙◌, subst, inl, arith}
use Rattle.std.specs.Prelude.{if◌then◌else◌, Option, Some, None, Result, Ok, Err, cond, IfSome}
use Rattle.std.specs.List.{AllByRecursion, flat_map}
use Rattle.srm_names.specs.declared.limits.TheConstants.{LATEST_MOMENT}
use Rattle.srm_names.specs.declared.page.Page.{Page}
use Rattle.srm_names.specs.FullName.{FullName}
use Rattle.srm_names.specs.Histories.{greatest}
use Rattle.srm_names.proofs.Lists.{AllByRecursion-snoc, greatest-append}
use Rattle.srm_codec.specs.declared.datagram.Datagram.{Datagram}
use Rattle.srm_codec.specs.declared.fault.DecodeFault.{DecodeFault}
use Rattle.srm_codec.specs.Judging.{judge}
use Rattle.srm_entries.specs.declared.fault.AgentFault.{AgentFault}
use Rattle.srm_agent.specs.declared.heard.Heard.{Heard}
use Rattle.srm_agent.specs.declared.ticked.Ticked.{Ticked}
use Rattle.srm_entries.specs.declared.entry.Entry.{Entry}
use Rattle.srm_entries.specs.declared.entry.Input.{Input}
use Rattle.srm_entries.specs.declared.entry.Verdict.{Verdict}
use Rattle.srm_entries.specs.declared.entry.Verdict.TheVariants.{Done, Ignored, Refused}
use Rattle.srm_entries.specs.declared.cause.Cause.TheVariants as causes
use Rattle.srm_entries.specs.Entries.{state, is_gone, takes_moment, moments_counted, last_moment}
use Rattle.srm_entries.specs.Hearing.{read_as, bytes_heard}
use Rattle.srm_entries.specs.declared.entry.Input.TheVariants.{Drew}
use Rattle.srm_entries.specs.declared.entry.Input.TheVariants as inputs
use Rattle.srm_entries.specs.Configs.{Config}
use Rattle.srm_agent.specs.Contents.{AgentContent}
use Rattle.srm_agent.specs.Fits.{AgentFits}
use Rattle.srm_agent.specs.Noting.{Enters, AgentStays, ReadsAs, AnswersAs, AnswersHeard, IsDrawnName, IsTicked, moment_that_counts}
use Rattle.srm_agent.proofs.Fitting.{fits_run}
use Rattle.srm_world.specs.Traces.{Journal, IsJournal, IsHandable, CanBeHanded}
use Rattle.srm_world.specs.Claims.{IsLawfulJournal}
use Rattle.srm_world.specs.Recording.{Records, RecordsHeard, with_entry}
use Rattle.srm_world.specs.Recorders.{IsKept}
use Rattle.srm_world.proofs.Lawful.{lawful_journal}

-- a tick is in the session of the journal
pub of_session : {W : Type 0} (j : Journal) (a : AgentContent W) (e : Entry) (answer : Result Ticked AgentFault) → IsKept j a → AnswersAs (IsTicked a.config.session e) e.verdict answer → AnswersAs (IsTicked j.start.config.session e) e.verdict answer
of_session j a e answer kept answers = subst (λ (s : Config). AnswersAs (IsTicked s.session e) e.verdict answer) kept.fits.config answers

pub records : {W A : Type 0} (next_word : W → ℕ × W) (now : Option ℕ) (input : Input) (is : Entry → A → Type 0) (j new : Journal) (a b : AgentContent W) (e : Entry) (answer : Result A AgentFault) → IsKept j a → Enters next_word now input a b e
    → AnswersAs (is e) e.verdict answer → new ≡ with_entry j e → Records now input is j new answer
records next_word now input is j new a b e answer kept enters answers grown = inl (e, record { moment = enters.moment_is ∙ ap (moment_that_counts now) kept.fits.last; grown = grown }, enters.input_is, answers)

pub records_drawn : {W : Type 0} (next_word : W → ℕ × W) (now : ℕ) (page : Page) (body : List ℕ) (j new : Journal) (a b : AgentContent W) (e : Entry) (answer : Result FullName AgentFault) → IsKept j a → Enters next_word (Some now) (Drew page body) a b e
    → AnswersAs (IsDrawnName e) e.verdict answer → new ≡ with_entry j e → Records (Some now) (Drew page body) IsDrawnName j new answer
records_drawn next_word now page body = records next_word (Some now) (Drew page body) IsDrawnName

pub records_ticked : {W : Type 0} (next_word : W → ℕ × W) (now : ℕ) (j new : Journal) (a b : AgentContent W) (e : Entry) (answer : Result Ticked AgentFault) → IsKept j a → Enters next_word (Some now) inputs.Ticked a b e
    → AnswersAs (IsTicked a.config.session e) e.verdict answer → new ≡ with_entry j e → Records (Some now) inputs.Ticked (IsTicked j.start.config.session) j new answer
records_ticked next_word now j new a b e answer kept enters answers grown = records next_word (Some now) inputs.Ticked (IsTicked j.start.config.session) j new a b e answer kept enters (of_session j a e answer kept answers) grown

pub records_heard : {W : Type 0} (next_word : W → ℕ × W) (now : ℕ) (bytes : List ℕ) (j new : Journal) (a b : AgentContent W) (e : Entry) (answer : Result Heard AgentFault) → IsKept j a → Enters next_word (Some now) e.input a b e → ReadsAs bytes a e
    → AnswersHeard e answer → new ≡ with_entry j e → RecordsHeard now bytes j new answer
records_heard next_word now bytes j new a b e answer kept enters reads answers grown =
    inl (e, record { moment = enters.moment_is ∙ ap (moment_that_counts (Some now)) kept.fits.last; grown = grown }, reads.each j.start.config j.start.made j.entries kept.fits, answers)

-- the moments of an agent that was made at a moment of a clock, and handed such moments, are moments of a clock

counted : (e : Entry) → e.moment ≤ LATEST_MOMENT → greatest (moments_counted e.verdict e) ≤ LATEST_MOMENT
counted e low = by_verdict e.verdict
  where
    by_input : (b : Bool) → greatest (if b then e.moment ∷ [] else []) ≤ LATEST_MOMENT
    by_input true = omega (arith, low)
    by_input false = omega arith

    by_verdict : (v : Verdict) → greatest (moments_counted v e) ≤ LATEST_MOMENT
    by_verdict Done = by_input (takes_moment e.input)
    by_verdict (Ignored cause) = by_input (takes_moment e.input)
    by_verdict (Refused fault) = omega arith

all_counted : (es : List Entry) → AllByRecursion IsHandable es → greatest (flat_map (λ (e : Entry). moments_counted e.verdict e) es) ≤ LATEST_MOMENT
all_counted [] all = omega arith
all_counted (e ∷ es) all =
    rw (greatest-append (moments_counted e.verdict e) (flat_map (λ (e : Entry). moments_counted e.verdict e) es)) (omega (arith, counted e all.0.moment, all_counted es all.1))

last_low : (made : ℕ) (es : List Entry) → made ≤ LATEST_MOMENT → AllByRecursion IsHandable es → last_moment made es ≤ LATEST_MOMENT
last_low made es low all = omega (arith, all_counted es all)

-- a call is at a moment of a clock, or takes none
abbrev pub IsTimed : Option ℕ → Type 0
IsTimed now = IfSome now (λ m. m ≤ LATEST_MOMENT)

counts_low : (now : Option ℕ) (last : ℕ) → IsTimed now → last ≤ LATEST_MOMENT → moment_that_counts now last ≤ LATEST_MOMENT
counts_low None last timed low = low
counts_low (Some now) last timed low = omega (arith, timed)

one_handed : {W : Type 0} (next_word : W → ℕ × W) (now : Option ℕ) (input : Input) (j : Journal) (a b : AgentContent W) (e : Entry) → IsKept j a → Enters next_word now input a b e → IsTimed now → CanBeHanded input → IsHandable e
one_handed next_word now input j a b e kept enters timed can = record {
  moment =
      subst (λ m. m ≤ LATEST_MOMENT) (sym enters.moment_is)
      (counts_low now a.last timed (subst (λ m. m ≤ LATEST_MOMENT) (sym kept.fits.last) (last_low j.start.made j.entries kept.made kept.handed)));
  input = subst CanBeHanded (sym enters.input_is) can;
}

-- what is kept, with one entry more

pub still_kept : {W : Type 0} (next_word : W → ℕ × W) (now : Option ℕ) (input : Input) (j : Journal) (a b : AgentContent W) (e : Entry) (es : List Entry) → IsKept j a → Enters next_word now input a b e → IsTimed now → CanBeHanded input
    → es ≡ j.entries ++ e ∷ [] → IsKept (record { start = j.start; entries = es }) b
still_kept next_word now input j a b e es kept enters timed can is = record {
  fits = subst (λ xs. AgentFits j.start.config j.start.made xs b) (sym is) (enters.fits j.start.config j.start.made j.entries kept.fits);
  made = kept.made;
  handed = subst (AllByRecursion IsHandable) (sym is) (AllByRecursion-snoc IsHandable j.entries e kept.handed (one_handed next_word now input j a b e kept enters timed can));
}

heard_handed : (c : Config) (past : List Entry) (bytes : List ℕ) → CanBeHanded ((bytes_heard c past bytes).0)
heard_handed c past bytes = gone (is_gone (state past)) (judge c.session bytes)
  where
    read : (r : Result Datagram DecodeFault) → CanBeHanded ((read_as c past r).0)
    read (Ok g) = tt
    read (Err fault) = tt

    gone : (b : Bool) (r : Result Datagram DecodeFault) → CanBeHanded ((cond b (inputs.Noise, Ignored causes.Gone) (read_as c past r)).0)
    gone true r = tt
    gone false r = read r

-- and a recorder takes whatever bytes came
read_handed : {W : Type 0} (bytes : List ℕ) (j : Journal) (a : AgentContent W) (e : Entry) → IsKept j a → ReadsAs bytes a e → CanBeHanded e.input
read_handed bytes j a e kept reads = subst CanBeHanded (sym (ap (λ (p : Input × Verdict). p.0) (reads.each j.start.config j.start.made j.entries kept.fits))) (heard_handed j.start.config j.entries bytes)

pub still_heard : {W : Type 0} (next_word : W → ℕ × W) (now : ℕ) (bytes : List ℕ) (j : Journal) (a b : AgentContent W) (e : Entry) (es : List Entry) → IsKept j a → Enters next_word (Some now) e.input a b e → ReadsAs bytes a e → now ≤ LATEST_MOMENT
    → es ≡ j.entries ++ e ∷ [] → IsKept (record { start = j.start; entries = es }) b
still_heard next_word now bytes j a b e es kept enters reads timed is = still_kept next_word (Some now) e.input j a b e es kept enters timed (read_handed bytes j a e kept reads) is

-- and the same entries where memory ran out
pub kept_same : {W : Type 0} (j : Journal) (a b : AgentContent W) (es : List Entry) → IsKept j a → AgentStays a b → es ≡ j.entries → IsKept (record { start = j.start; entries = es }) b
kept_same j a b es kept stays is = record {
  fits = subst (λ xs. AgentFits j.start.config j.start.made xs b) (sym is) (stays.fits j.start.config j.start.made j.entries kept.fits);
  made = kept.made;
  handed = subst (AllByRecursion IsHandable) (sym is) kept.handed;
}

-- an agent that did nothing yet
pub kept_at_first : {W : Type 0} (j : Journal) (a : AgentContent W) → j.start.made ≤ LATEST_MOMENT → j.entries ≡ [] → AgentFits j.start.config j.start.made [] a → IsKept j a
kept_at_first j a made none fits = record {
  fits = subst (λ xs. AgentFits j.start.config j.start.made xs a) (sym none) fits;
  made = made;
  handed = subst (AllByRecursion IsHandable) (sym none) tt;
}

-- the same entries in another place
pub entries_same : {W : Type 0} (j : Journal) (a : AgentContent W) (es : List Entry) → IsKept j a → es ≡ j.entries → IsKept (record { start = j.start; entries = es }) a
entries_same j a es kept is = record {
  fits = subst (λ xs. AgentFits j.start.config j.start.made xs a) (sym is) kept.fits;
  made = kept.made;
  handed = subst (AllByRecursion IsHandable) (sym is) kept.handed;
}

pub journal_kept : {W : Type 0} (j : Journal) (a : AgentContent W) → IsKept j a → IsJournal j
journal_kept j a kept = record { run = fits_run j.start.config j.start.made j.entries a kept.fits; handed = kept.handed }

pub lawful : {W : Type 0} (j : Journal) (a : AgentContent W) → IsKept j a → IsLawfulJournal j
lawful j a kept = lawful_journal j (journal_kept j a kept)

pub lawful_after : {W : Type 0} (next_word : W → ℕ × W) (now : Option ℕ) (input : Input) (j : Journal) (a b : AgentContent W) (e : Entry) (new : Journal) → IsKept j a → Enters next_word now input a b e → IsTimed now → CanBeHanded input → new ≡ with_entry j e
    → IsLawfulJournal new
lawful_after next_word now input j a b e new kept enters timed can grown =
    subst IsLawfulJournal (sym grown) (lawful (with_entry j e) b (still_kept next_word now input j a b e (j.entries ++ e ∷ []) kept enters timed can refl))

pub lawful_heard : {W : Type 0} (next_word : W → ℕ × W) (now : ℕ) (bytes : List ℕ) (j : Journal) (a b : AgentContent W) (e : Entry) (new : Journal) → IsKept j a → Enters next_word (Some now) e.input a b e → ReadsAs bytes a e → now ≤ LATEST_MOMENT → new ≡ with_entry j e
    → IsLawfulJournal new
lawful_heard next_word now bytes j a b e new kept enters reads timed grown =
    subst IsLawfulJournal (sym grown) (lawful (with_entry j e) b (still_heard next_word now bytes j a b e (j.entries ++ e ∷ []) kept enters reads timed refl))
