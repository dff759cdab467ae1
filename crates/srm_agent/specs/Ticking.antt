-- What a tick prepares before anything changes, and what each of its steps does.
use Rattle.std.specs.Prelude.{◌≡◌, ℕ, ◌+◌, ◌==◌, Bool, true, false, not, ◌&&◌, List, [], length, if◌then◌else◌, Option, Some, None, is_some, nat_le}
use Rattle.std.specs.List.{AllByRecursion}
use Rattle.srm_names.specs.FullName.{FullName}
use Rattle.srm_names.specs.Names.{ascending, name_below}
use Rattle.srm_codec.specs.declared.datagram.Datagram.{Datagram}
use Rattle.srm_timers.specs.declared.arm.Arm.{Arm}
use Rattle.srm_timers.specs.Arms.{AreChosen}
use Rattle.srm_bucket.specs.declared.class.Class.TheVariants.{New}
use Rattle.srm_bucket.specs.Content.{BucketContent}
use Rattle.srm_bucket.specs.Waiting.{queue}
use Rattle.srm_agent.specs.declared.agent.due.Due.{Due}
use Rattle.srm_agent.specs.declared.agent.due.DueSessionMessage.{DueSessionMessage}
use Rattle.srm_agent.specs.declared.agent.due.HandedOut.{HandedOut}
use Rattle.srm_outbox.specs.declared.due_items.DueItem.{DueItem}
use Rattle.srm_entries.specs.declared.entry.Entry.{Entry}
use Rattle.srm_entries.specs.declared.entry.Input.TheVariants.{Ticked}
use Rattle.srm_entries.specs.declared.entry.Verdict.TheVariants.{Done}
use Rattle.srm_outbox.specs.declared.out.Outgoing.{Outgoing}
use Rattle.srm_outbox.specs.Outs.{IsOut, datagrams_of}
use Rattle.srm_agent.specs.declared.ticked.Ticked as answers
use Rattle.srm_entries.specs.declared.state.AgentState.{AgentState}
use Rattle.srm_entries.specs.declared.state.AgentState.TheVariants.{Gone}
use Rattle.srm_entries.specs.Configs.{Config}
use Rattle.srm_agent.specs.Contents.{AgentContent}
use Rattle.srm_entries.specs.Entries.{state, is_gone, is_leaving}
use Rattle.srm_entries.specs.Timers.{low_of, high_of, TimersRight}
use Rattle.srm_entries.specs.Sessions.{session_interval}
use Rattle.srm_agent.specs.Fits.{AgentFits}
use Rattle.srm_agent_state.specs.TimersKept.{TimersContent}
use Rattle.srm_agent_state.specs.TimerCalls.{AreDueAsks, AreDueFixes, AsksRanOut, FixesRanOut, AreToAsk, AreToFix, TicksWith, TimersAdd}
use Rattle.srm_agent.specs.Noting.{Enters}
use Rattle.srm_agent.specs.SessionMessages.{IsSessionMessageSpelled}
use Rattle.srm_agent.specs.DueItems.{DueItems}
use Rattle.srm_outbox.specs.Outbox.{WentContent, HandsIn, LetsGo}

-- the entry of a tick: the names that it requests and repairs, the timers that it sets, what it sends, and the state after it
abbrev pub tick_entry : ℕ → ℕ → List FullName → List FullName → List Arm → List Datagram → AgentState → Entry
tick_entry me moment asks fixes arms outs after = record {
  member = me;
  moment = moment;
  input = Ticked;
  verdict = Done;
  effects = record { drawn = None; arms = arms; asks = asks; fixes = fixes; outs = outs; message = None; state = after };
}

-- the entry of a member's tick, by what is answered
abbrev pub ticked_with : ℕ → ℕ → answers.Ticked → Entry
ticked_with me moment ticked = tick_entry me moment ticked.asks ticked.fixes ticked.arms (datagrams_of ticked.outs) ticked.state

-- and of an agent's
abbrev pub ticked_by : {W : Type 0} → AgentContent W → ℕ → answers.Ticked → Entry
ticked_by a moment ticked = ticked_with a.config.me moment ticked

-- a tick had the entry of what is answered, and the bytes of each out spell its datagram in the session
pub record TicksAs {W : Type 0} (next_word : W → ℕ × W) (now moment : ℕ) (old new : AgentContent W) (ticked : answers.Ticked) : Type 0 where
  pub enters : Enters next_word (Some now) Ticked old new (ticked_by old moment ticked)
  pub spelled : AllByRecursion (IsOut old.config.session) ticked.outs

-- the tick requested, repaired and sent nothing
pub record IsIdle (ticked : answers.Ticked) : Type 0 where
  pub asks : ticked.asks ≡ []
  pub fixes : ticked.fixes ≡ []
  pub arms : ticked.arms ≡ []
  pub outs : ticked.outs ≡ []

-- a session message or a farewell of an agent at a moment, and when the next one is due after it
pub record IsSessionMessageAt {W : Type 0} (a : AgentContent W) (moment : ℕ) (farewell : Bool) (r : DueSessionMessage) : Type 0 where
  pub message : IsSessionMessageSpelled a moment farewell r.outgoing
  pub next : (c : Config) (made : ℕ) (past : List Entry) → AgentFits c made past a → r.next ≡ moment + session_interval c past r.outgoing.out.datagram

-- there is one exactly where it is wanted
abbrev pub IsSessionMessageIf : {W : Type 0} → Bool → AgentContent W → ℕ → Bool → Option DueSessionMessage → Type 0
IsSessionMessageIf wanted a moment farewell None = wanted ≡ false
IsSessionMessageIf wanted a moment farewell (Some r) = (wanted ≡ true) × IsSessionMessageAt a moment farewell r

-- the names whose timers have expired, over whatever run the agent fits
pub record IsToHandOut {W : Type 0} (a : AgentContent W) (moment : ℕ) (h : HandedOut) : Type 0 where
  pub asks : AsksRanOut moment a.timers h.asks
  pub rising : ascending name_below h.asks ≡ true
  pub due_asks : AreDueAsks moment a.timers h.asks
  pub fixes : FixesRanOut moment a.timers h.fixes
  pub due_fixes : AreDueFixes moment a.timers h.fixes

-- All that is due at a tick: the names whose timers have expired, the requests and repairs for them, the farewell of a leaving member,
-- and the session message.
pub record IsDue {W : Type 0} (a : AgentContent W) (moment : ℕ) (d : Due) : Type 0 where
  pub handed_out : IsToHandOut a moment d.handed_out
  pub due_items : DueItems a d.handed_out.asks d.handed_out.fixes d.due_items.items
  pub farewell : IsSessionMessageIf (is_leaving a.state) a moment true d.farewell
  pub session_message : IsSessionMessageIf (nat_le a.due moment) a moment false d.session_message

-- the tick ends or sets again the timers that have expired, and these are the timers after it
pub record TicksTimers {W : Type 0} (a : AgentContent W) (asks fixes : List FullName) (moment : ℕ) (arms : List Arm) (new : TimersContent) : Type 0 where
  pub each : (c : Config) (made : ℕ) (past : List Entry) (e : Entry) → AgentFits c made past a → TicksWith asks fixes moment arms e → is_gone (state past) ≡ false
      → AreToAsk moment past asks → AreToFix moment past fixes → TimersAdd c past e new × TimersRight past e

-- the timers of these names have expired, and the generator's next numbers chose the waits of those that were set again
pub record HandsOut {W : Type 0} (next_word : W → ℕ × W) (a : AgentContent W) (handed_out : HandedOut) (moment : ℕ) (arms : List Arm) (b : AgentContent W) : Type 0 where
  pub ticks : TicksTimers a handed_out.asks handed_out.fixes moment arms b.timers
  pub chosen : AreChosen next_word (low_of a.config) (high_of a.config) a.words arms b.words

-- requests and repairs are added to the bucket, and what may go at a moment goes
pub record SendsAll (moment : ℕ) (due_items : List DueItem) (old new : BucketContent Outgoing) (went : WentContent) : Type 0 where
  pub after_hand_in : BucketContent Outgoing
  pub hands : HandsIn due_items old after_hand_in
  pub lets : LetsGo moment after_hand_in new went

-- whether data that this member drew still waits
abbrev pub data_waits : BucketContent Outgoing → Bool
data_waits b = not (length (queue b.waiting New) == 0)

-- the message that a tick ends with: the farewell of a leaving member, once no new data waits, else the session message
abbrev pub session_message_at_end : (waits : Bool) → (farewell message : Option DueSessionMessage) → Option DueSessionMessage
session_message_at_end true farewell message = message
session_message_at_end false None message = message
session_message_at_end false (Some farewell) message = Some farewell

-- the state after it
abbrev pub state_after : (waits : Bool) → (farewell : Option DueSessionMessage) → AgentState → AgentState
state_after waits farewell old = if is_some farewell && not waits then Gone else old

-- when the next session message is due after it
abbrev pub due_then : Option DueSessionMessage → ℕ → ℕ
due_then None old = old
due_then (Some r) old = r.next
