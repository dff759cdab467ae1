-- The entry of one datagram that was heard.
use Rattle.std.specs.Prelude.{◌≡◌, ◌≢◌, ℕ, ◌≤◌, false, List, [], Option, Some, None}
use Rattle.srm_names.specs.declared.limits.TheConstants.{LATEST_MOMENT}
use Rattle.srm_names.specs.FullName.{FullName}
use Rattle.srm_names.specs.Names.{AreExactly}
use Rattle.srm_names.specs.declared.drawop.Drawop.{Drawop}
use Rattle.srm_codec.specs.declared.datagram.Datagram.{Datagram}
use Rattle.srm_codec.specs.declared.datagram.Datagram.TheVariants.{Data, Repair}
use Rattle.srm_codec.specs.declared.fault.DecodeFault.{DecodeFault}
use Rattle.srm_codec.specs.declared.fault.DecodeFault.TheVariants as decoding
use Rattle.srm_timers.specs.declared.arm.Arm.{Arm}
use Rattle.srm_entries.specs.declared.cause.Outcome.TheVariants as outcomes
use Rattle.srm_entries.specs.declared.cause.Cause.TheVariants as causes
use Rattle.srm_entries.specs.declared.state.AgentState.{AgentState}
use Rattle.srm_entries.specs.declared.entry.Entry.{Entry}
use Rattle.srm_entries.specs.declared.entry.Input.{Input}
use Rattle.srm_entries.specs.declared.entry.Input.TheVariants.{Heard, Noise}
use Rattle.srm_entries.specs.declared.entry.Verdict.TheVariants.{Ignored}
use Rattle.srm_entries.specs.Configs.{Config}
use Rattle.srm_agent.specs.declared.heard.Heard as answers
use Rattle.srm_agent.specs.Contents.{AgentContent}
use Rattle.srm_agent.specs.Fits.{AgentFits}
use Rattle.srm_codec.specs.Spelling.{IsSpellable, names_in}
use Rattle.srm_entries.specs.Entries.{is_gone, known}
use Rattle.srm_store.specs.PageTables.{table_lacks_room_for}
use Rattle.srm_names.specs.Between.{is_between}
use Rattle.srm_entries.specs.Verdicts.{verdict_of}
use Rattle.srm_agent.specs.Noting.{Enters, IsAllowed, verdict_of_outcome}

-- the verdict is that on the datagram, after whatever run the agent fitted
pub record IsJudgedBy {W : Type 0} (datagram : Datagram) (old : AgentContent W) (e : Entry) : Type 0 where
  pub each : (c : Config) (made : ℕ) (past : List Entry) → AgentFits c made past old → e.verdict ≡ verdict_of c past (Heard datagram)

-- bytes that can't be decoded are noise with this fault, and it isn't that memory ran out
pub record IsNoiseFor (fault : DecodeFault) (e : Entry) : Type 0 where
  pub input : e.input ≡ Noise
  pub verdict : e.verdict ≡ Ignored (causes.Decode fault)
  pub other : fault ≢ decoding.Memory

-- the datagram that carries a drawop: data, or a repair where a member repairs it
abbrev pub carrying : Option ℕ → Drawop → Datagram
carrying None drawop = Data drawop
carrying (Some repairer) drawop = Repair repairer drawop

-- a member may accept a datagram with these names at this moment: it isn't gone, and their pages have slots or find free ones
pub record MayAccept {W : Type 0} (datagram : Datagram) (names : List FullName) (moment : ℕ) (a : AgentContent W) : Type 0 where
  pub here : is_gone a.state ≡ false
  pub spelled : IsSpellable datagram
  pub later : a.last ≤ moment
  pub in_range : moment ≤ LATEST_MOMENT
  pub allowed : IsAllowed (Heard datagram) a
  pub named : names ≡ names_in datagram
  pub pages : table_lacks_room_for a.pages names ≡ false

-- the entry of what a member heard, by what is answered: it sets timers, and does nothing else
abbrev pub entry_with : ℕ → ℕ → Input → AgentState → answers.Heard → Entry
entry_with me moment input state heard = record {
  member = me;
  moment = moment;
  input = input;
  verdict = verdict_of_outcome heard.outcome;
  effects = record { drawn = None; arms = heard.arms; asks = []; fixes = []; outs = []; message = None; state = state };
}

-- the entry in which a datagram was heard and accepted
abbrev pub heard_entry : ℕ → ℕ → Datagram → List Arm → AgentState → Entry
heard_entry me moment datagram arms state = entry_with me moment (Heard datagram) state (record { arms = arms; outcome = outcomes.Taken })

-- the same of what an agent heard
abbrev pub entry_by : {W : Type 0} → AgentContent W → ℕ → Input → answers.Heard → Entry
entry_by a moment input heard = entry_with a.config.me moment input a.state heard

-- the entry is of this datagram, and by what is answered
abbrev pub EntersHeard : {W : Type 0} → (W → ℕ × W) → Datagram → ℕ → AgentContent W → AgentContent W → answers.Heard → Type 0
EntersHeard next_word datagram moment old new heard = Enters next_word (Some moment) (Heard datagram) old new (entry_by old moment (Heard datagram) heard)

-- the names are those below this one that aren't known of, in order, after whatever run the agent fitted
pub record AreNewlyMissingBelow {W : Type 0} (name : FullName) (old : AgentContent W) (names : List FullName) : Type 0 where
  pub each : (c : Config) (made : ℕ) (past : List Entry) → AgentFits c made past old → AreExactly (is_between name.stream (known past name.stream) name.number) names
