-- What a call of an agent says of its entry.
use Rattle.std.specs.Prelude.{◌≡◌, ◌⊎◌, ℕ, ◌++◌, max, false, List, [], ◌∷◌, Option, Some, None, option_map, Result, Ok, Err, IsOk}
use Rattle.srm_names.specs.declared.drawop.Drawop.{Drawop}
use Rattle.srm_names.specs.FullName.{FullName}
use Rattle.srm_names.specs.declared.page_msg.PageMsg.{PageMsg}
use Rattle.srm_codec.specs.Judging.{judge}
use Rattle.srm_timers.specs.Arms.{AreChosen}
use Rattle.srm_entries.specs.declared.cause.Outcome.{Outcome}
use Rattle.srm_entries.specs.declared.cause.Outcome.TheVariants as outcomes
use Rattle.srm_agent.specs.declared.heard.Heard.{Heard}
use Rattle.srm_agent.specs.declared.ticked.Ticked.{Ticked}
use Rattle.srm_entries.specs.declared.fault.AgentFault.{AgentFault}
use Rattle.srm_entries.specs.declared.fault.AgentFault.TheVariants.{Memory}
use Rattle.srm_entries.specs.declared.entry.Entry.{Entry}
use Rattle.srm_entries.specs.declared.entry.Input.{Input}
use Rattle.srm_entries.specs.declared.entry.Input.TheVariants.{Gave}
use Rattle.srm_entries.specs.declared.entry.Verdict.{Verdict}
use Rattle.srm_entries.specs.declared.entry.Verdict.TheVariants.{Done, Ignored, Refused}
use Rattle.srm_entries.specs.Configs.{Config}
use Rattle.srm_entries.specs.Still.{entry_without_effects}
use Rattle.srm_entries.specs.Entries.{is_gone}
use Rattle.srm_entries.specs.Verdicts.{verdict_of}
use Rattle.srm_agent.specs.Contents.{AgentContent}
use Rattle.srm_agent.specs.Fits.{AgentFits}
use Rattle.srm_entries.specs.Timers.{low_of, high_of}
use Rattle.srm_entries.specs.Hearing.{bytes_heard}
use Rattle.srm_outbox.specs.Outs.{AreOutsOf}

-- the verdict on a call, by what it answers
abbrev pub verdict_answering : {A : Type 0} → Result A AgentFault → Verdict
verdict_answering (Ok value) = Done
verdict_answering (Err fault) = Refused fault

-- the entry of a give, by what is answered
abbrev pub gave_by : {W : Type 0} → AgentContent W → ℕ → Option PageMsg → Entry
gave_by a slot message = entry_without_effects a.config.me a.last (Gave slot) Done message a.state

-- the moment that counts: a lower one than the last counts as the last, and a call that takes none has the last
abbrev pub moment_that_counts : Option ℕ → ℕ → ℕ
moment_that_counts None last = last
moment_that_counts (Some now) last = max now last

-- The entry is of this input, at the moment that counts. Whatever run the agent fitted, it fits the run with this entry added.
-- The generator's next numbers choose the waits of its arms, one number an arm, in order; the call consumes no other.
pub record Enters {W : Type 0} (next_word : W → ℕ × W) (now : Option ℕ) (input : Input) (old new : AgentContent W) (e : Entry) : Type 0 where
  pub input_is : e.input ≡ input
  pub moment_is : e.moment ≡ moment_that_counts now old.last
  pub fits : (c : Config) (made : ℕ) (past : List Entry) → AgentFits c made past old → AgentFits c made (past ++ e ∷ []) new
  pub words : AreChosen next_word (low_of old.config) (high_of old.config) old.words e.effects.arms new.words

-- a call without effects has the entry of the agent that it leaves, with the verdict of what it answers
abbrev pub EntersWithoutEffects : {W A : Type 0} → (W → ℕ × W) → ℕ → Input → AgentContent W → AgentContent W → Result A AgentFault → Type 0
EntersWithoutEffects next_word moment input old new answer = Enters next_word (Some moment) input old new (entry_without_effects new.config.me moment input (verdict_answering answer) None new.state)

-- whatever run the agent fitted, it still fits, and no random number was consumed
pub record AgentStays {W : Type 0} (old new : AgentContent W) : Type 0 where
  pub fits : (c : Config) (made : ℕ) (past : List Entry) → AgentFits c made past old → AgentFits c made past new
  pub words : new.words ≡ old.words

-- a call that fails returns its fault, and one that is done its value
abbrev pub AnswersAs : {A : Type 0} → (A → Type 0) → Verdict → Result A AgentFault → Type 0
AnswersAs is (Refused fault) answer = answer ≡ Err fault
AnswersAs is (Ignored cause) answer = ⊥
AnswersAs is Done (Ok value) = is value
AnswersAs is Done (Err fault) = ⊥

-- a call had an entry, and answered as it says
abbrev pub HasEntry : {W A : Type 0} → (W → ℕ × W) → Option ℕ → Input → (Entry → A → Type 0) → AgentContent W → AgentContent W → Result A AgentFault → Type 0
HasEntry next_word now input is old new answer = (e : Entry) × Enters next_word now input old new e × AnswersAs (is e) e.verdict answer

-- whatever run the agent fitted, this input would be done after it
pub record IsAllowed {W : Type 0} (input : Input) (old : AgentContent W) : Type 0 where
  pub each : (c : Config) (made : ℕ) (past : List Entry) → AgentFits c made past old → verdict_of c past input ≡ Done

-- A call had an entry, and answered as it says. Or memory ran out for an input that would have been done, and whatever run the agent
-- fitted, it still fits.
abbrev pub Does : {W A : Type 0} → (W → ℕ × W) → Option ℕ → Input → (Entry → A → Type 0) → AgentContent W → AgentContent W → Result A AgentFault → Type 0
Does next_word now input is old new answer = HasEntry next_word now input is old new answer ⊎ ((answer ≡ Err Memory) × IsAllowed input old × AgentStays old new)

-- To the agent the bytes are what the entry heard: the datagram that they spell, else noise with their fault.
pub record ReadsAs {W : Type 0} (bytes : List ℕ) (old : AgentContent W) (e : Entry) : Type 0 where
  pub each : (c : Config) (made : ℕ) (past : List Entry) → AgentFits c made past old → (e.input, e.verdict) ≡ bytes_heard c past bytes

-- the verdict on what was heard, by what is answered
abbrev pub verdict_of_outcome : Outcome → Verdict
verdict_of_outcome outcomes.Taken = Done
verdict_of_outcome (outcomes.Ignored cause) = Ignored cause

-- what hearing bytes answers is what its entry says
abbrev pub AnswersHeard : Entry → Result Heard AgentFault → Type 0
AnswersHeard e (Ok heard) = (heard.arms ≡ e.effects.arms) × (e.verdict ≡ verdict_of_outcome heard.outcome)
AnswersHeard e (Err fault) = ⊥

-- hearing bytes had an entry, and answered as it says
abbrev pub HeardAs : {W : Type 0} → (W → ℕ × W) → ℕ → List ℕ → AgentContent W → AgentContent W → Result Heard AgentFault → Type 0
HeardAs next_word now bytes old new answer = (e : Entry) × Enters next_word (Some now) e.input old new e × ReadsAs bytes old e × AnswersHeard e answer

-- Hearing bytes had an entry, and answered as it says. Or memory ran out, for a member that isn't gone and a datagram of its session.
abbrev pub Hears : {W : Type 0} → (W → ℕ × W) → ℕ → List ℕ → AgentContent W → AgentContent W → Result Heard AgentFault → Type 0
Hears next_word now bytes old new answer =
    HeardAs next_word now bytes old new answer ⊎ ((answer ≡ Err Memory) × (is_gone old.state ≡ false) × IsOk (judge old.config.session bytes) × AgentStays old new)

-- what a tick answers is what its entry says
pub record IsTicked (session : ℕ) (e : Entry) (ticked : Ticked) : Type 0 where
  pub asks : ticked.asks ≡ e.effects.asks
  pub fixes : ticked.fixes ≡ e.effects.fixes
  pub arms : ticked.arms ≡ e.effects.arms
  pub outs : AreOutsOf session ticked.outs e.effects.outs
  pub state : ticked.state ≡ e.effects.state

-- what a draw answers is the name of the drawop that was made
abbrev pub IsDrawnName : Entry → FullName → Type 0
IsDrawnName e name = option_map (λ (d : Drawop). d.name) e.effects.drawn ≡ Some name
