-- When an agent next has something to do, over all runs that it fits, and by what it keeps.
use Rattle.std.specs.Prelude.{◌≡◌, ℕ, ◌<◌, ◌≤◌, ◌==◌, ◌&&◌, min, List, length, if◌then◌else◌, Option, Some, None}
use Rattle.srm_bucket.specs.declared.class.Class.TheVariants.{New}
use Rattle.srm_bucket.specs.Fits.{IsNextDeparture}
use Rattle.srm_bucket.specs.Waiting.{queue}
use Rattle.srm_deadlines.specs.Least.{lesser}
use Rattle.srm_entries.specs.declared.entry.Entry.{Entry}
use Rattle.srm_entries.specs.Configs.{Config}
use Rattle.srm_entries.specs.Entries.{is_leaving}
use Rattle.srm_agent_state.specs.TimerCalls.{TimersNext}
use Rattle.srm_agent.specs.Contents.{AgentContent}
use Rattle.srm_agent.specs.Fits.{AgentFits}
use Rattle.srm_entries.specs.Promises.{MayDoNothing, IsNextDue}
use Rattle.srm_agent.specs.Noting.{moment_that_counts}

-- after whatever run the agent fits, this is the next moment at which a tick does something
pub record NextDue {W : Type 0} (a : AgentContent W) (moment : Option ℕ) : Type 0 where
  pub each : (c : Config) (made : ℕ) (past : List Entry) → AgentFits c made past a → IsNextDue c made past moment

-- from when on a tick sends a session message: a farewell at once if the member is leaving and no new data waits
abbrev pub session_message_next : {W : Type 0} → AgentContent W → ℕ
session_message_next a = if is_leaving a.state && (length (queue a.bucket.waiting New) == 0) then a.last else a.due

-- the sooner of two moments; the second, if there is no first
abbrev pub sooner_of : Option ℕ → ℕ → ℕ
sooner_of None r = r
sooner_of (Some t) r = min t r

-- the soonest of three moments: the first timer expires, the next item that waits may go, a session message is due
pub record IsNextAt {W : Type 0} (a : AgentContent W) (next : ℕ) : Type 0 where
  pub timers : Option ℕ
  pub waiting : Option ℕ
  pub runs : TimersNext a.timers timers
  pub waits : IsNextDeparture a.bucket waiting
  pub is : next ≡ sooner_of (lesser timers waiting) (session_message_next a)

-- the moment is before that
abbrev pub IsEarly : {W : Type 0} → AgentContent W → ℕ → Type 0
IsEarly a moment = (next : ℕ) × IsNextAt a next × (moment < next)

-- that deadline has expired
abbrev pub IsLate : {W : Type 0} → AgentContent W → ℕ → Type 0
IsLate a moment = (next : ℕ) × IsNextAt a next × (next ≤ moment)

-- after whatever run the agent fits, a tick at this moment has something to do
pub record Stirs {W : Type 0} (now : ℕ) (a : AgentContent W) : Type 0 where
  pub each : (c : Config) (made : ℕ) (past : List Entry) → AgentFits c made past a → MayDoNothing c made past (moment_that_counts (Some now) a.last) → ⊥
