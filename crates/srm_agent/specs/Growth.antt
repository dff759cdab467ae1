-- Which names of a stream become missing as more of it is known.
use Rattle.std.specs.Prelude.{ℕ, ◌+◌, Bool, List}
use Rattle.std.specs.List.{list_any}
use Rattle.srm_names.specs.declared.stream.Stream.{Stream}
use Rattle.srm_names.specs.FullName.{FullName}
use Rattle.srm_names.specs.Names.{AreExactly}
use Rattle.srm_store.specs.Held.{greatest_in}
use Rattle.srm_entries.specs.declared.entry.Entry.{Entry}
use Rattle.srm_entries.specs.Configs.{Config}
use Rattle.srm_agent.specs.Contents.{AgentContent}
use Rattle.srm_entries.specs.Entries.{known}
use Rattle.srm_agent.specs.Fits.{AgentFits}
use Rattle.srm_names.specs.Between.{is_between}

-- these are, in order, the names of a stream that aren't known of, up to the greatest of those named, after whatever run the agent fitted
pub record AreNewlyMissingUpTo {W : Type 0} (s : Stream) (names : List FullName) (old : AgentContent W) (newly_missing : List FullName) : Type 0 where
  pub each : (c : Config) (made : ℕ) (past : List Entry) → AgentFits c made past old → AreExactly (is_between s (known past s) (greatest_in names s + 1)) newly_missing

-- the name is above what is known of the stream of one of these rows, and not above the row's number
abbrev pub is_newly_missing_by_rows : List Entry → List FullName → FullName → Bool
is_newly_missing_by_rows past rows n = list_any (λ (r : FullName). is_between r.stream (known past r.stream) (r.number + 1) n) rows

-- these are, in order, the names of the rows' streams that aren't known of, up to the numbers of the rows, after whatever run the agent
-- fitted
pub record AreNewlyMissingByRows {W : Type 0} (rows : List FullName) (old : AgentContent W) (newly_missing : List FullName) : Type 0 where
  pub each : (c : Config) (made : ℕ) (past : List Entry) → AgentFits c made past old → AreExactly (is_newly_missing_by_rows past rows) newly_missing
