-- What an agent answers of how it stands, over all runs that it fits.
use Rattle.std.specs.Prelude.{◌≡◌, ℕ, ◌*◌, ◌≤◌, false, List, Option, IsNone, sum_by}
use Rattle.srm_names.specs.declared.limits.TheConstants.{MEMBERS, DRAWOPS, PAGES}
use Rattle.srm_names.specs.declared.page.Page.{Page}
use Rattle.srm_names.specs.declared.stream.Stream.{Stream}
use Rattle.srm_names.specs.FullName.{FullName}
use Rattle.srm_names.specs.Histories.{count_up}
use Rattle.srm_names.specs.Between.{is_between}
use Rattle.srm_codec.specs.declared.datagram.Datagram.{Datagram}
use Rattle.srm_codec.specs.declared.format.TheConstants.{LONGEST_LIST}
use Rattle.srm_bucket.specs.declared.class.Class.{Class}
use Rattle.srm_bucket.specs.declared.class.Class.TheVariants.{Shown, New, Other}
use Rattle.srm_timers.specs.Arms.{RunsOutFirst}
use Rattle.srm_entries.specs.Configs.{Config}
use Rattle.srm_entries.specs.declared.entry.Entry.{Entry}
use Rattle.srm_entries.specs.declared.entry.Input.TheVariants.{Heard}
use Rattle.srm_entries.specs.declared.entry.Verdict.TheVariants.{Done}
use Rattle.srm_entries.specs.Entries.{is_missing, known, state}
use Rattle.srm_entries.specs.Outstanding.{missing_of, missing_on, missing_in_all, becomes_missing, heard_next, AreSoMany, WouldMiss, AreWaiting}
use Rattle.srm_entries.specs.Timers.{ask_running, fix_running}
use Rattle.srm_entries.specs.Verdicts.{verdict_of}
use Rattle.srm_agent.specs.Contents.{AgentContent}
use Rattle.srm_agent.specs.Fits.{AgentFits}
use Rattle.srm_agent.specs.Growth.{is_newly_missing_by_rows}
use Rattle.srm_agent.specs.declared.outstanding.Outstanding as answers

-- so many names of sources below n are missing on a page
pub record MissesBelow {W : Type 0} (a : AgentContent W) (page : Page) (n count : ℕ) : Type 0 where
  pub is : (c : Config) (made : ℕ) (past : List Entry) → AgentFits c made past a → count ≡ sum_by (missing_of past page) (count_up 0 n)
  pub few : count ≤ n * DRAWOPS

-- so many names are missing on a page
pub record MissesOn {W : Type 0} (a : AgentContent W) (page : Page) (count : ℕ) : Type 0 where
  pub is : (c : Config) (made : ℕ) (past : List Entry) → AgentFits c made past a → count ≡ missing_on past page
  pub few : count ≤ MEMBERS * DRAWOPS

-- so many names are missing in all
pub record MissesInAll {W : Type 0} (a : AgentContent W) (count : ℕ) : Type 0 where
  pub is : (c : Config) (made : ℕ) (past : List Entry) → AgentFits c made past a → count ≡ missing_in_all past
  pub few : count ≤ PAGES * (MEMBERS * DRAWOPS)

-- no name is missing
pub record MissesNothing {W : Type 0} (a : AgentContent W) : Type 0 where
  pub each : (c : Config) (made : ℕ) (past : List Entry) → AgentFits c made past a → (n : FullName) → is_missing past n ≡ false

-- hearing these bytes would make so many names missing
pub record WouldMissBytes {W : Type 0} (bytes : List ℕ) (a : AgentContent W) (count : ℕ) : Type 0 where
  pub each : (c : Config) (made : ℕ) (past : List Entry) → AgentFits c made past a → WouldMiss c past bytes count

-- hearing this datagram would
pub record WouldMissBy {W : Type 0} (g : Datagram) (a : AgentContent W) (count : ℕ) : Type 0 where
  pub each : (c : Config) (made : ℕ) (past : List Entry) → AgentFits c made past a → AreSoMany (becomes_missing past (heard_next c past (Heard g, verdict_of c past (Heard g)))) count

-- and would if it were accepted
pub record ShowsMissing {W : Type 0} (g : Datagram) (a : AgentContent W) (count : ℕ) : Type 0 where
  pub each : (c : Config) (made : ℕ) (past : List Entry) → AgentFits c made past a → AreSoMany (becomes_missing past (heard_next c past (Heard g, Done))) count

-- so many names of a stream aren't known of, below a number
pub record AreUnknownBelow {W : Type 0} (s : Stream) (below : ℕ) (a : AgentContent W) (count : ℕ) : Type 0 where
  pub each : (c : Config) (made : ℕ) (past : List Entry) → AgentFits c made past a → AreSoMany (is_between s (known past s) below) count
  pub few : count ≤ DRAWOPS

-- so many names of the rows' streams aren't known of, up to the numbers of the rows
pub record AreUnknownByRows {W : Type 0} (rows : List FullName) (a : AgentContent W) (count : ℕ) : Type 0 where
  pub each : (c : Config) (made : ℕ) (past : List Entry) → AgentFits c made past a → AreSoMany (is_newly_missing_by_rows past rows) count
  pub few : count ≤ LONGEST_LIST * DRAWOPS

-- the first request timer of all expires at this moment, and none runs where there is none
pub record NextRequest {W : Type 0} (a : AgentContent W) (moment : Option ℕ) : Type 0 where
  pub each : (c : Config) (made : ℕ) (past : List Entry) → AgentFits c made past a → RunsOutFirst (ask_running past) moment

-- and the first repair timer
pub record NextRepair {W : Type 0} (a : AgentContent W) (moment : Option ℕ) : Type 0 where
  pub each : (c : Config) (made : ℕ) (past : List Entry) → AgentFits c made past a → RunsOutFirst (fix_running past) moment

-- so many datagrams of a class wait to be sent
pub record WaitingIn {W : Type 0} (class : Class) (a : AgentContent W) (count : ℕ) : Type 0 where
  pub each : (c : Config) (made : ℕ) (past : List Entry) → AgentFits c made past a → AreWaiting c past class count

-- this is outstanding after these entries
pub record IsOutstanding (c : Config) (past : List Entry) (o : answers.Outstanding) : Type 0 where
  pub missing : o.missing ≡ missing_in_all past
  pub next_request : RunsOutFirst (ask_running past) o.next_request
  pub nothing : IsNone o.next_request → (n : FullName) → is_missing past n ≡ false
  pub next_repair : RunsOutFirst (fix_running past) o.next_repair
  pub waiting_shown : AreWaiting c past Shown o.waiting_shown
  pub waiting_new : AreWaiting c past New o.waiting_new
  pub waiting_other : AreWaiting c past Other o.waiting_other
  pub state : o.state ≡ state past

-- whatever run the agent fits
pub record SaysOutstanding {W : Type 0} (a : AgentContent W) (o : answers.Outstanding) : Type 0 where
  pub each : (c : Config) (made : ℕ) (past : List Entry) → AgentFits c made past a → IsOutstanding c past o
