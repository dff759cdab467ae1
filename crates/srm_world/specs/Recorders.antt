-- What a recorder keeps.
use Rattle.std.specs.Prelude.{◌≤◌, List, Option}
use Rattle.std.specs.List.{AllByRecursion}
use Rattle.srm_names.specs.declared.limits.TheConstants.{LATEST_MOMENT}
use Rattle.srm_agent.specs.Contents.{AgentContent}
use Rattle.srm_agent.specs.Fits.{AgentFits}
use Rattle.srm_entries.specs.declared.entry.Entry.{Entry}
use Rattle.srm_world.specs.declared.start.Start.{Start}
use Rattle.srm_world.specs.Traces.{Journal, IsHandable}
use Rattle.srm_world.specs.RecordStarts.{RecordStart}
use Rattle.srm_world.specs.WaitWords.{RecorderView}

abbrev pub journal_of : Start → List Entry → Journal
journal_of start past = record { start = start; entries = past }

abbrev pub recorder_view : {W : Type 0} → Start → List Entry → Option RecordStart → AgentContent W → RecorderView W
recorder_view start past begins agent = record { journal = journal_of start past; words = agent.words; begins = begins }

-- what contracts see of the history of a recorder that ended: the journal, and how the record begins that it is written to, if it is written to one
pub record HistoryView : Type 0 where
  pub journal : Journal
  pub begins : Option RecordStart

-- The agent was made at a moment up to 2^48, and fits the entries, which are of calls that a recorder takes.
pub record IsKept {W : Type 0} (j : Journal) (a : AgentContent W) : Type 0 where
  pub fits : AgentFits j.start.config j.start.made j.entries a
  pub made : j.start.made ≤ LATEST_MOMENT
  pub handed : AllByRecursion IsHandable j.entries
