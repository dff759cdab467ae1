-- The entries of what is ignored: noise, and datagrams with a cause.
use Rattle.std.proofs.Common.{◌≡◌, ◌≢◌, ℕ, ◌≤◌, max, Bool, true, false, inl, inr, List, [], ◌∷◌, refl, ap, sym, ◌∙◌, subst, arith}
use Rattle.std.specs.Prelude.{Option, Some, None, Result, Ok, Err, IfOk, IsOk, OnErr, if◌then◌else◌}
use Rattle.std.proofs.lemmas.Result.{IfOk-weaker}
use Rattle.srm_names.specs.Histories.{greatest}
use Rattle.srm_codec.specs.declared.datagram.Datagram.{Datagram}
use Rattle.srm_codec.specs.declared.fault.DecodeFault.{DecodeFault}
use Rattle.srm_codec.specs.declared.fault.DecodeFault.TheVariants as decoding
use Rattle.srm_codec.specs.Judging.{judge}
use Rattle.srm_codec.specs.Reading.{IsJudged, takes_memory}
use Rattle.srm_entries.specs.declared.cause.Cause.{Cause}
use Rattle.srm_entries.specs.declared.cause.Cause.TheVariants as causes
use Rattle.srm_entries.specs.declared.state.AgentState.{AgentState}
use Rattle.srm_entries.specs.declared.entry.Entry.{Entry}
use Rattle.srm_entries.specs.declared.entry.Input.{Input}
use Rattle.srm_entries.specs.declared.entry.Input.TheVariants.{Heard, Noise}
use Rattle.srm_entries.specs.declared.entry.Verdict.TheVariants.{Ignored}
use Rattle.srm_entries.specs.Configs.{Config}
use Rattle.srm_entries.specs.Causes.{ignored_for}
use Rattle.srm_entries.specs.Entries.{is_tick, takes_moment, is_gone}
use Rattle.srm_entries.specs.Verdicts.{VerdictRight, verdict_of}
use Rattle.srm_entries.specs.Giving.{MessageRight, given_in}
use Rattle.srm_entries.specs.Hearing.{read_as}
use Rattle.srm_agent.specs.Heeding.{IsJudgedBy, IsNoiseFor}
use Rattle.srm_agent.specs.Contents.{AgentContent}
use Rattle.srm_agent.specs.Fits.{AgentFits}
use Rattle.srm_entries.specs.Still.{entry_without_effects}
use Rattle.srm_agent.specs.Noting.{Enters, IsAllowed, ReadsAs}
use Rattle.srm_entries.proofs.Running.{slots-same}
use Rattle.srm_agent.proofs.Still.{undone_follows, same_progress}
use Rattle.srm_agent.proofs.Entering.{still_enters, moves_on}

ignored_enters : {W : Type 0} (next_word : W → ℕ × W) (a : AgentContent W) (now moment : ℕ) (input : Input) (cause : Cause) (e : Entry) → e ≡ entry_without_effects a.config.me moment input (Ignored cause) None a.state → moment ≡ max now a.last
    → is_tick input ≡ false → takes_moment input ≡ true → ((j : ℕ) → given_in j input None ≡ None) → ((c : Config) (past : List Entry) → MessageRight c past input None)
    → ((c : Config) (made : ℕ) (past : List Entry) → AgentFits c made past a → VerdictRight c past input (Ignored cause)) → Enters next_word (Some now) input a (record a { last = moment }) e
ignored_enters next_word a now moment input cause e is at unticked takes ungiven message right =
    still_enters next_word a (record a { last = moment }) now moment input (Ignored cause) a.state e is at refl (record { config = refl; store = refl; distances = refl; timers = refl; bucket = refl; due = refl }) refl
    (subst (λ (b : Bool). moment ≡ max a.last (greatest (if b then moment ∷ [] else []))) (sym takes) (moves_on now a.last moment at)) refl
    (λ c made past h late. undone_follows c made past moment input (Ignored cause) a.state refl unticked takes late (right c made past h) (message c past) h.state)
    (λ c made past h. h.pages ∙ sym (slots-same past _ refl)) (λ c made past h. same_progress past _ a.progress ungiven h.progress)

abbrev pub ignored_entry : {W : Type 0} → AgentContent W → ℕ → Input → Cause → Entry
ignored_entry a moment input cause = entry_without_effects a.config.me moment input (Ignored cause) None a.state

-- to a gone agent all is noise
pub gone_enters : {W : Type 0} (next_word : W → ℕ × W) (a b : AgentContent W) (now moment : ℕ) (e : Entry) → is_gone a.state ≡ true → b ≡ record a { last = moment } → e ≡ ignored_entry a moment Noise causes.Gone → moment ≡ max now a.last
    → Enters next_word (Some now) e.input a b e
gone_enters next_word a b now moment e gone new is at =
    subst (λ x. Enters next_word (Some now) x.input a b e) (sym is) (subst (λ x. Enters next_word (Some now) Noise a x e) (sym new)
    (ignored_enters next_word a now moment Noise causes.Gone e is at refl refl (λ j. refl) (λ c past. refl) (λ c made past h. rw (ap is_gone (sym h.state) ∙ gone) refl)))

pub gone_reads : {W : Type 0} (a : AgentContent W) (moment : ℕ) (bytes : List ℕ) (e : Entry) → is_gone a.state ≡ true → e ≡ ignored_entry a moment Noise causes.Gone → ReadsAs bytes a e
gone_reads a moment bytes e gone is = record { each = λ c made past h. rw (is, ap is_gone (sym h.state) ∙ gone) refl }

pub noise_enters : {W : Type 0} (next_word : W → ℕ × W) (a b : AgentContent W) (moment : ℕ) (fault : DecodeFault) (e : Entry) → is_gone a.state ≡ false → a.last ≤ moment → fault ≢ decoding.Memory
    → b ≡ record a { last = moment } → e ≡ ignored_entry a moment Noise (causes.Decode fault) → Enters next_word (Some moment) Noise a b e
noise_enters next_word a b moment fault e here late other new is = subst (λ x. Enters next_word (Some moment) Noise a x e) (sym new)
    (ignored_enters next_word a moment moment Noise (causes.Decode fault) e is (omega (arith, late)) refl refl (λ j. refl) (λ c past. refl) (λ c made past h. rw (ap is_gone (sym h.state) ∙ here) (fault, other, refl)))

pub noise_is : (me moment : ℕ) (s : AgentState) (fault : DecodeFault) (cause : Cause) (e : Entry) → fault ≢ decoding.Memory → cause ≡ causes.Decode fault → e ≡ entry_without_effects me moment Noise (Ignored cause) None s → IsNoiseFor fault e
noise_is me moment s fault cause e other found is = record { input = ap (λ (x : Entry). x.input) is; verdict = ap (λ (x : Entry). x.verdict) is ∙ ap Ignored found; other = other }

pub judged_fault : (fault : DecodeFault) (judged : Result Datagram DecodeFault) → fault ≢ decoding.Memory → IsJudged takes_memory (Err fault) judged → judged ≡ Err fault
judged_fault fault judged other (inl e) = e
judged_fault fault judged other (inr e) = absurd (other e.0)

pub noise_reads : {W : Type 0} (a : AgentContent W) (session : ℕ) (bytes : List ℕ) (fault : DecodeFault) (e : Entry) → is_gone a.state ≡ false → session ≡ a.config.session
    → IsJudged takes_memory (Err fault) (judge session bytes) → IsNoiseFor fault e → ReadsAs bytes a e
noise_reads a session bytes fault e here same judged noise = record {
  each = λ c made past h.
      let j : judge c.session bytes ≡ Err fault = ap (λ (s : Config). judge s.session bytes) (sym h.config) ∙ ap (λ n. judge n bytes) (sym same) ∙ judged_fault fault (judge session bytes) noise.other judged in
      rw (noise.input, noise.verdict, ap is_gone (sym h.state) ∙ here, j) refl;
}

-- a datagram with a cause
pub ignored_datagram : {W : Type 0} (next_word : W → ℕ × W) (a b : AgentContent W) (moment : ℕ) (g : Datagram) (cause : Cause) (o : Option Cause) (e : Entry) → is_gone a.state ≡ false → a.last ≤ moment → o ≡ Some cause
    → ((c : Config) (made : ℕ) (past : List Entry) → AgentFits c made past a → ignored_for o ≡ verdict_of c past (Heard g))
    → b ≡ record a { last = moment } → e ≡ ignored_entry a moment (Heard g) cause → Enters next_word (Some moment) (Heard g) a b e
ignored_datagram next_word a b moment g cause o e here late found judged new is = subst (λ x. Enters next_word (Some moment) (Heard g) a x e) (sym new)
    (ignored_enters next_word a moment moment (Heard g) cause e is (omega (arith, late)) refl refl (λ j. refl) (λ c past. refl)
    (λ c made past h. (ap is_gone (sym h.state) ∙ here, ap ignored_for (sym found) ∙ judged c made past h)))

pub ignored_judged : {W : Type 0} (a : AgentContent W) (moment : ℕ) (g : Datagram) (cause : Cause) (o : Option Cause) (e : Entry) → o ≡ Some cause
    → ((c : Config) (made : ℕ) (past : List Entry) → AgentFits c made past a → ignored_for o ≡ verdict_of c past (Heard g)) → e ≡ ignored_entry a moment (Heard g) cause → IsJudgedBy g a e
ignored_judged a moment g cause o e found judged is = record { each = λ c made past h. ap (λ (x : Entry). x.verdict) is ∙ ap ignored_for (sym found) ∙ judged c made past h }

-- a datagram with no cause to ignore it is accepted, and what is done with it is as judged
pub accepted_at_none : {W : Type 0} (a : AgentContent W) (g : Datagram) (o : Option Cause) → o ≡ None → ((c : Config) (made : ℕ) (past : List Entry) → AgentFits c made past a → ignored_for o ≡ verdict_of c past (Heard g)) → IsAllowed (Heard g) a
accepted_at_none a g o none judged = record { each = λ c made past h. sym (judged c made past h) ∙ ap ignored_for none }

-- what was heard as a datagram was read as it
pub read_enters : {W : Type 0} (next_word : W → ℕ × W) (a b : AgentContent W) (now moment : ℕ) (input : Input) (e : Entry) → moment ≡ max now a.last → Enters next_word (Some moment) input a b e → Enters next_word (Some now) e.input a b e
read_enters next_word a b now moment input e at enters = record { input_is = refl; moment_is = enters.moment_is ∙ omega (arith, at); fits = enters.fits; words = enters.words }

pub heard_reads : {W : Type 0} (next_word : W → ℕ × W) (a b : AgentContent W) (moment session : ℕ) (bytes : List ℕ) (g : Datagram) (e : Entry) → is_gone a.state ≡ false → session ≡ a.config.session
    → judge session bytes ≡ Ok g → Enters next_word (Some moment) (Heard g) a b e → IsJudgedBy g a e → ReadsAs bytes a e
heard_reads next_word a b moment session bytes g e here same judged enters by = record {
  each = λ c made past h.
      let j : judge c.session bytes ≡ Ok g = ap (λ (s : Config). judge s.session bytes) (sym h.config) ∙ ap (λ n. judge n bytes) (sym same) ∙ judged in
      ap (λ i. (i, e.verdict)) enters.input_is ∙ ap (λ v. (Heard g, v)) (by.each c made past h)
      ∙ sym (ap (λ (b : Bool). if b then (Noise, Ignored causes.Gone) else read_as c past (judge c.session bytes)) (ap is_gone (sym h.state) ∙ here) ∙ ap (read_as c past) j);
}

-- out of memory comes only for a datagram: one that was decoded, or one where memory ran out in decoding
pub refused_as_read : {A B : Type 0} (r : Result A B) (session own : ℕ) (bytes : List ℕ) (g : Datagram) → session ≡ own → judge session bytes ≡ Ok g → OnErr r (IsOk (judge own bytes))
refused_as_read (Ok x) session own bytes g same read = tt
refused_as_read (Err y) session own bytes g same read = rw (← same, read) refl

-- what holds of what is answered, where something is
pub if_one : {A B : Type 0} {P Q : A → Type 0} (r : Result A B) → IfOk r P → ((x : A) → P x → Q x) → IfOk r Q
if_one {A} {B} {P} {Q} r p to = IfOk-weaker r P Q to p

pub if_two : {A B : Type 0} {P R Q : A → Type 0} (r : Result A B) → IfOk r P → IfOk r R → ((x : A) → P x → R x → Q x) → IfOk r Q
if_two (Ok x) p r to = to x p r
if_two (Err y) p r to = tt
