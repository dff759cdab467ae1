-- The entries of the calls that hear nothing and send nothing.
use Rattle.std.proofs.Common.{◌≡◌, ℕ, ◌≤◌, max, true, false, not, List, [], ◌∷◌, ◌++◌, refl, ap, sym, ◌∙◌, subst, arith}
use Rattle.std.specs.Prelude.{Some, None, Result, Ok, Err, unwrap_or}
use Rattle.srm_names.specs.declared.page.Page.{Page}
use Rattle.srm_names.specs.Histories.{greatest}
use Rattle.srm_entries.specs.declared.fault.AgentFault.{AgentFault}
use Rattle.srm_entries.specs.declared.fault.AgentFault.TheVariants as faults
use Rattle.srm_entries.specs.declared.state.AgentState.{AgentState}
use Rattle.srm_entries.specs.declared.state.AgentState.TheVariants.{Active, Leaving, Gone}
use Rattle.srm_entries.specs.declared.entry.Entry.{Entry}
use Rattle.srm_entries.specs.declared.entry.Input.{Input}
use Rattle.srm_entries.specs.declared.entry.Input.TheVariants.{Showed, AskedLeave, Ticked, Gave}
use Rattle.srm_entries.specs.declared.entry.Verdict.{Verdict}
use Rattle.srm_entries.specs.declared.entry.Verdict.TheVariants.{Done, Refused}
use Rattle.srm_entries.specs.Configs.{Config}
use Rattle.srm_entries.specs.Entries.{is_tick, takes_moment, moments_counted, last_moment, is_gone, done_input, page_shown, slots}
use Rattle.srm_store.specs.PageTables.{table_lacks_room, with_page}
use Rattle.srm_entries.specs.Verdicts.{VerdictRight}
use Rattle.srm_entries.specs.Giving.{MessageRight, given_in}
use Rattle.srm_agent.specs.Contents.{AgentContent}
use Rattle.srm_agent.specs.Fits.{AgentFits, EachProgressFits}
use Rattle.srm_entries.specs.Still.{entry_without_effects}
use Rattle.srm_agent.specs.Noting.{AnswersAs, Enters, EntersWithoutEffects, HasEntry, IsAllowed, verdict_answering}
use Rattle.srm_entries.proofs.Running.{slots-same}
use Rattle.srm_agent.proofs.Slotted.{slots_lack, slots-one}
use Rattle.srm_agent.proofs.Still.{MayFollow, SameParts, undone_follows, still_fits, same_progress}

-- an entry of this agent is one of the member whose run it fits
pub of_member : {W : Type 0} (c : Config) (made : ℕ) (past : List Entry) (a b : AgentContent W) (e : Entry) (make : ℕ → Entry) → AgentFits c made past a → e ≡ make a.config.me → AgentFits c made (past ++ make c.me ∷ []) b → AgentFits c made (past ++ e ∷ []) b
of_member c made past a b e make h is fits = subst (λ w. AgentFits c made (past ++ w ∷ []) b) (sym (is ∙ ap (λ (s : Config). make s.me) h.config)) fits

at_least : (now last moment : ℕ) → moment ≡ max now last → last ≤ moment
at_least now last moment e = omega (arith, e)

-- a moment that isn't below the last one
pub later : {W : Type 0} (c : Config) (made : ℕ) (past : List Entry) (a : AgentContent W) (now moment : ℕ) → AgentFits c made past a → moment ≡ max now a.last → last_moment made past ≤ moment
later c made past a now moment h e = subst (λ n. n ≤ moment) h.last (at_least now a.last moment e)

pub moves_on : (now last moment : ℕ) → moment ≡ max now last → moment ≡ max last (max moment 0)
moves_on now last moment e = omega (arith, e)

pub stays_at : (last : ℕ) → last ≡ max last 0
stays_at last = omega arith

same_parts : {W : Type 0} (a : AgentContent W) → SameParts a a
same_parts a = record { config = refl; store = refl; distances = refl; timers = refl; bucket = refl; due = refl }

-- an entry without effects: what the agent becomes by it, of the state, the last moment, the page, the pages and the progress
pub still_enters : {W : Type 0} (next_word : W → ℕ × W) (a b : AgentContent W) (now moment : ℕ) (input : Input) (verdict : Verdict) (after : AgentState) (e : Entry) → e ≡ entry_without_effects a.config.me moment input verdict None after → moment ≡ max now a.last
    → b.words ≡ a.words → SameParts a b → b.state ≡ after → b.last ≡ max a.last (greatest (moments_counted verdict (entry_without_effects a.config.me moment input verdict None after))) → b.showing ≡ unwrap_or (page_shown (done_input verdict input)) a.showing
    → ((c : Config) (made : ℕ) (past : List Entry) → AgentFits c made past a → last_moment made past ≤ moment → MayFollow c made past moment input verdict None after)
    → ((c : Config) (made : ℕ) (past : List Entry) → AgentFits c made past a → b.pages ≡ slots (past ++ entry_without_effects c.me moment input verdict None after ∷ []))
    → ((c : Config) (made : ℕ) (past : List Entry) → AgentFits c made past a → EachProgressFits (past ++ entry_without_effects c.me moment input verdict None after ∷ []) b.progress) → Enters next_word (Some now) input a b e
still_enters next_word a b now moment input verdict after e is at words same is_state is_last is_showing may pages progress = record {
  input_is = ap (λ (x : Entry). x.input) is;
  words = rw is words;
  moment_is = ap (λ (x : Entry). x.moment) is ∙ at;
  fits = λ c made past h. of_member c made past a b e (λ me. entry_without_effects me moment input verdict None after) h is
      (still_fits c made past a b moment input verdict None after h (may c made past h (later c made past a now moment h at)) same is_state
      (subst (λ (s : Config). b.last ≡ max a.last (greatest (moments_counted verdict (entry_without_effects s.me moment input verdict None after)))) h.config is_last) is_showing (pages c made past h) (progress c made past h));
}

-- what a call without effects says of the moment that counts, and of its answer

pub max_above : (low high : ℕ) → low ≤ high → high ≡ max high low
max_above low high l = omega (arith, l)

answers_still : {A : Type 0} (r : Result A AgentFault) → AnswersAs (λ _. Unit {0}) (verdict_answering r) r
answers_still (Ok value) = tt
answers_still (Err fault) = refl

enters_at : {W A : Type 0} (next_word : W → ℕ × W) (a b : AgentContent W) (now moment : ℕ) (input : Input) (r : Result A AgentFault) → moment ≡ max now a.last → EntersWithoutEffects next_word moment input a b r
    → Enters next_word (Some now) input a b (entry_without_effects b.config.me moment input (verdict_answering r) None b.state)
enters_at next_word a b now moment input r at enters = record { input_is = refl; moment_is = at; fits = enters.fits; words = enters.words }

pub has_still : {W A : Type 0} (next_word : W → ℕ × W) (a b : AgentContent W) (now moment : ℕ) (input : Input) (r : Result A AgentFault) → moment ≡ max now a.last → EntersWithoutEffects next_word moment input a b r → HasEntry next_word (Some now) input (λ _ _. Unit {0}) a b r
has_still next_word a b now moment input r at enters = (entry_without_effects b.config.me moment input (verdict_answering r) None b.state, enters_at next_word a b now moment input r at enters, answers_still r)

pub noted_enters : {W A : Type 0} (next_word : W → ℕ × W) (a b : AgentContent W) (now moment : ℕ) (input : Input) (r : Result A AgentFault) (e : Entry) → moment ≡ max now a.last → EntersWithoutEffects next_word moment input a b r
    → e ≡ entry_without_effects b.config.me moment input (verdict_answering r) None b.state → Enters next_word (Some now) input a b e
noted_enters next_word a b now moment input r e at enters is = subst (λ x. Enters next_word (Some now) input a b x) (sym is) (enters_at next_word a b now moment input r at enters)

pub noted_answers : {A : Type 0} (me moment : ℕ) (input : Input) (r answer : Result A AgentFault) (after : AgentState) (e : Entry) → e ≡ entry_without_effects me moment input (verdict_answering r) None after → answer ≡ r → AnswersAs (λ _. Unit {0}) e.verdict answer
noted_answers me moment input r answer after e is same = subst (λ (x : Entry). AnswersAs (λ _. Unit {0}) x.verdict answer) (sym is) (subst (λ x. AnswersAs (λ _. Unit {0}) (verdict_answering r) x) (sym same) (answers_still r))

-- a refused call changes nothing, and its moment doesn't count
pub refused_enters : {W : Type 0} (next_word : W → ℕ × W) (a : AgentContent W) (now moment : ℕ) (input : Input) (fault : AgentFault) (e : Entry) → e ≡ entry_without_effects a.config.me moment input (Refused fault) None a.state → moment ≡ max now a.last
    → is_tick input ≡ false → takes_moment input ≡ true → ((j : ℕ) → given_in j input None ≡ None) → ((c : Config) (past : List Entry) → MessageRight c past input None)
    → ((c : Config) (made : ℕ) (past : List Entry) → AgentFits c made past a → VerdictRight c past input (Refused fault)) → Enters next_word (Some now) input a a e
refused_enters next_word a now moment input fault e is at unticked takes ungiven message right =
    still_enters next_word a a now moment input (Refused fault) a.state e is at refl (same_parts a) refl (stays_at a.last) refl
    (λ c made past h late. undone_follows c made past moment input (Refused fault) a.state refl unticked takes late (right c made past h) (message c past) h.state)
    (λ c made past h. h.pages ∙ sym (slots-same past _ refl)) (λ c made past h. same_progress past _ a.progress ungiven h.progress)

pub leave_gone : {W : Type 0} (next_word : W → ℕ × W) (a : AgentContent W) (now moment : ℕ) (e : Entry) → a.state ≡ Gone → e ≡ entry_without_effects a.config.me moment AskedLeave (Refused faults.Gone) None a.state → moment ≡ max now a.last → Enters next_word (Some now) AskedLeave a a e
leave_gone next_word a now moment e gone is at = refused_enters next_word a now moment AskedLeave faults.Gone e is at refl refl (λ j. refl) (λ c past. refl) (λ c made past h. rw (sym h.state ∙ gone) refl)

pub leave_leaving : {W : Type 0} (next_word : W → ℕ × W) (a : AgentContent W) (now moment : ℕ) (e : Entry) → a.state ≡ Leaving → e ≡ entry_without_effects a.config.me moment AskedLeave (Refused faults.Leaving) None a.state → moment ≡ max now a.last → Enters next_word (Some now) AskedLeave a a e
leave_leaving next_word a now moment e leaving is at = refused_enters next_word a now moment AskedLeave faults.Leaving e is at refl refl (λ j. refl) (λ c past. refl) (λ c made past h. rw (sym h.state ∙ leaving) refl)

pub leave_done : {W : Type 0} (next_word : W → ℕ × W) (a : AgentContent W) (now moment : ℕ) (e : Entry) → a.state ≡ Active → e ≡ entry_without_effects a.config.me moment AskedLeave Done None Leaving → moment ≡ max now a.last
    → Enters next_word (Some now) AskedLeave a (record a { state = Leaving; last = moment }) e
leave_done next_word a now moment e active is at =
    still_enters next_word a (record a { state = Leaving; last = moment }) now moment AskedLeave Done Leaving e is at refl (record { config = refl; store = refl; distances = refl; timers = refl; bucket = refl; due = refl }) refl (moves_on now a.last moment at) refl
    (λ c made past h late. record {
      unheard = refl;
      undrawn = refl;
      idle = refl;
      moment_right = late;
      verdict_right = rw (sym h.state ∙ active) refl;
      message_right = refl;
      state_right = refl;
    })
    (λ c made past h. h.pages ∙ sym (slots-same past _ refl)) (λ c made past h. same_progress past _ a.progress (λ j. refl) h.progress)

pub show_gone : {W : Type 0} (next_word : W → ℕ × W) (a : AgentContent W) (now moment : ℕ) (page : Page) (e : Entry) → is_gone a.state ≡ true → e ≡ entry_without_effects a.config.me moment (Showed page) (Refused faults.Gone) None a.state → moment ≡ max now a.last
    → Enters next_word (Some now) (Showed page) a a e
show_gone next_word a now moment page e gone is at =
    refused_enters next_word a now moment (Showed page) faults.Gone e is at refl refl (λ j. refl) (λ c past. refl) (λ c made past h. rw (ap is_gone (sym h.state) ∙ gone) refl)

pub show_full : {W : Type 0} (next_word : W → ℕ × W) (a : AgentContent W) (now moment : ℕ) (page : Page) (e : Entry) → is_gone a.state ≡ false → table_lacks_room a.pages page ≡ true
    → e ≡ entry_without_effects a.config.me moment (Showed page) (Refused faults.PageLimit) None a.state → moment ≡ max now a.last → Enters next_word (Some now) (Showed page) a a e
show_full next_word a now moment page e here full is at =
    refused_enters next_word a now moment (Showed page) faults.PageLimit e is at refl refl (λ j. refl) (λ c past. refl)
    (λ c made past h. rw (ap is_gone (sym h.state) ∙ here, slots_lack past (page ∷ []) ∙ ap (λ ps. table_lacks_room ps page) (sym h.pages) ∙ full) refl)

pub show_done : {W : Type 0} (next_word : W → ℕ × W) (a : AgentContent W) (now moment : ℕ) (page : Page) (pages : List Page) (e : Entry) → is_gone a.state ≡ false → table_lacks_room a.pages page ≡ false → pages ≡ with_page a.pages page
    → e ≡ entry_without_effects a.config.me moment (Showed page) Done None a.state → moment ≡ max now a.last
    → Enters next_word (Some now) (Showed page) a (record a { last = moment; showing = page; pages = pages }) e
show_done next_word a now moment page pages e here room added is at =
    still_enters next_word a (record a { last = moment; showing = page; pages = pages }) now moment (Showed page) Done a.state e is at refl (record { config = refl; store = refl; distances = refl; timers = refl; bucket = refl; due = refl }) refl (moves_on now a.last moment at) refl
    (λ c made past h late. record {
      unheard = refl;
      undrawn = refl;
      idle = refl;
      moment_right = late;
      verdict_right = rw (ap is_gone (sym h.state) ∙ here, slots_lack past (page ∷ []) ∙ ap (λ ps. table_lacks_room ps page) (sym h.pages) ∙ room) refl;
      message_right = refl;
      state_right = h.state;
    })
    (λ c made past h. added ∙ ap (λ ps. with_page ps page) h.pages ∙ sym (slots-one past _ page refl)) (λ c made past h. same_progress past _ a.progress (λ j. refl) h.progress)

-- the tick of a member that is gone
pub rest_gone : {W : Type 0} (next_word : W → ℕ × W) (a b : AgentContent W) (now moment : ℕ) (e : Entry) → is_gone a.state ≡ true → b ≡ record a { last = moment } → e ≡ entry_without_effects a.config.me moment Ticked Done None a.state
    → moment ≡ max now a.last → Enters next_word (Some now) Ticked a b e
rest_gone next_word a b now moment e gone new is at = subst (λ x. Enters next_word (Some now) Ticked a x e) (sym new)
    (still_enters next_word a (record a { last = moment }) now moment Ticked Done a.state e is at refl (record { config = refl; store = refl; distances = refl; timers = refl; bucket = refl; due = refl }) refl (moves_on now a.last moment at) refl
    (λ c made past h late. record {
      unheard = refl;
      undrawn = refl;
      idle = ap not (ap is_gone (sym h.state) ∙ gone);
      moment_right = late;
      verdict_right = refl;
      message_right = refl;
      state_right = h.state;
    })
    (λ c made past h. h.pages ∙ sym (slots-same past _ refl)) (λ c made past h. same_progress past _ a.progress (λ j. refl) h.progress))

-- what is done whenever it is asked
pub tick_allowed : {W : Type 0} (a : AgentContent W) → IsAllowed Ticked a
tick_allowed a = record { each = λ c made past h. refl }

pub give_allowed : {W : Type 0} (a : AgentContent W) (slot : ℕ) → IsAllowed (Gave slot) a
give_allowed a slot = record { each = λ c made past h. refl }
