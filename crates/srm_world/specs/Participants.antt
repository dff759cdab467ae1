-- One member of a world: its agent, and what else the world keeps for it.
use Rattle.std.specs.Prelude.{◌≡◌, ℕ, List, [], ◌∷◌, ◌++◌, Option, Some, slice_get}
use Rattle.srm_codec.specs.declared.datagram.Datagram.{Datagram}
use Rattle.srm_codec.specs.Spelling.{Spells}
use Rattle.srm_outbox.specs.declared.out.Out.{Out}
use Rattle.srm_timers.specs.Arms.{AreChosen}
use Rattle.srm_entries.specs.declared.state.AgentState.{AgentState}
use Rattle.srm_entries.specs.declared.entry.Entry.{Entry}
use Rattle.srm_entries.specs.declared.entry.Input.{Input}
use Rattle.srm_entries.specs.declared.entry.Verdict.{Verdict}
use Rattle.srm_entries.specs.declared.entry.Verdict.TheVariants.{Refused}
use Rattle.srm_entries.specs.Configs.{Config}
use Rattle.srm_entries.specs.Timers.{low_of, high_of}
use Rattle.srm_agent.specs.Contents as agents
use Rattle.srm_entries.specs.Entries.{state, is_gone, last_moment}
use Rattle.srm_entries.specs.Giving.{given, taken}
use Rattle.srm_agent.specs.Fits.{AgentFits}
use Rattle.srm_agent.specs.Noting.{moment_that_counts}
use Rattle.srm_outbox.specs.Outs.{AreOutsOf}
use Rattle.srm_world.specs.declared.participant.Participant.TheInside.{Inside}
use Rattle.srm_world.specs.Events.{input_heard}
use Rattle.srm_world.specs.Lane.{LaneContent}

pub record ParticipantContent (W : Type 0) : Type 0 where
  pub agent : agents.AgentContent W
  pub config : Config
  pub last : ℕ
  pub state : AgentState
  pub lanes : List LaneContent

abbrev pub content_of : {W : Type 0} → Inside W → ParticipantContent W
content_of p = record { agent = p.agent; config = p.config; last = p.last; state = p.state; lanes = p.lanes }

-- what was given in a slot is what was taken there, followed by what waits in its lane
abbrev pub LanesFit : List Entry → List LaneContent → Type 0
LanesFit past lanes = (j : ℕ) (l : LaneContent) → slice_get lanes j ≡ Some l → given past j ≡ taken past j ++ l.waiting

-- all that is kept of a member is what the definitions say of its entries
pub record ParticipantFits {W : Type 0} (c : Config) (made : ℕ) (past : List Entry) (p : ParticipantContent W) : Type 0 where
  pub agent : AgentFits c made past p.agent
  pub config : p.config ≡ c
  pub last : p.last ≡ last_moment made past
  pub state : p.state ≡ state past
  pub lanes : LanesFit past p.lanes

-- the last moment after an entry: that of a call that failed doesn't count
abbrev pub last_with : ℕ → Verdict → ℕ → ℕ
last_with last (Refused fault) moment = last
last_with last _ moment = moment

-- the entry is at the moment that counts, and the member then fits the entries with this one added
pub record ParticipantAdds {W : Type 0} (c : Config) (made : ℕ) (past : List Entry) (now : Option ℕ) (new : ParticipantContent W) (e : Entry) : Type 0 where
  pub moment : e.moment ≡ moment_that_counts now (last_moment made past)
  pub fits : ParticipantFits c made (past ++ e ∷ []) new

-- The entry is of this input, and whatever entries the member fitted, it fits them with this one added. The generator's next numbers
-- chose its waits.
pub record GoesOn {W : Type 0} (next_word : W → ℕ × W) (now : Option ℕ) (input : Input) (old new : ParticipantContent W) (e : Entry) : Type 0 where
  pub input_is : e.input ≡ input
  pub adds : (c : Config) (made : ℕ) (past : List Entry) → ParticipantFits c made past old → ParticipantAdds c made past now new e
  pub words : AreChosen next_word (low_of old.agent.config) (high_of old.agent.config) old.agent.words e.effects.arms new.agent.words

-- whatever entries the member fitted, it still fits, and no random number was consumed
pub record ParticipantStays {W : Type 0} (old new : ParticipantContent W) : Type 0 where
  pub fits : (c : Config) (made : ℕ) (past : List Entry) → ParticipantFits c made past old → ParticipantFits c made past new
  pub words : new.agent.words ≡ old.agent.words

-- if the bytes encode a datagram, the entry is of this datagram, or of noise if the member is gone
pub record HearsBytes {W : Type 0} (bytes : List ℕ) (old : ParticipantContent W) (e : Entry) : Type 0 where
  pub each : (c : Config) (made : ℕ) (past : List Entry) (g : Datagram) → ParticipantFits c made past old → Spells c.session g bytes
      → e.input ≡ input_heard (is_gone (state past)) g

-- these are the datagrams of the entry, each with its bytes in the session, whatever entries the member fitted
pub record SendsOuts {W : Type 0} (old : ParticipantContent W) (e : Entry) (outs : List Out) : Type 0 where
  pub each : (c : Config) (made : ℕ) (past : List Entry) → ParticipantFits c made past old → AreOutsOf c.session outs e.effects.outs
