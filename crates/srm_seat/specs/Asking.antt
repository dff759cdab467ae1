-- What a seat tells of its agent: what the definitions say, after whatever run the agent fits.
use Rattle.std.specs.Prelude.{◌≡◌, ℕ, List, length, Option}
use Rattle.srm_names.specs.declared.page.Page.{Page}
use Rattle.srm_names.specs.declared.stream.Stream.{Stream}
use Rattle.srm_names.specs.FullName.{FullName}
use Rattle.srm_entries.specs.Configs.{Config}
use Rattle.srm_entries.specs.declared.entry.Entry.{Entry}
use Rattle.srm_entries.specs.declared.state.AgentState.{AgentState}
use Rattle.srm_entries.specs.Entries.{known, missing, state}
use Rattle.srm_entries.specs.Outstanding.{next_missing}
use Rattle.srm_entries.specs.Distances.{distance}
use Rattle.srm_entries.specs.Promises.{page_to_come}
use Rattle.srm_agent.specs.Fits.{AgentFits}
use Rattle.srm_seat.specs.Seats.{SeededAgent}

abbrev pub IsState : SeededAgent → AgentState → Type 0
IsState a answer = (c : Config) (made : ℕ) (past : List Entry) → AgentFits c made past a → answer ≡ state past

abbrev pub IsPageToCome : SeededAgent → Option Page → Type 0
IsPageToCome a answer = (c : Config) (made : ℕ) (past : List Entry) → AgentFits c made past a → answer ≡ page_to_come c past

abbrev pub IsDistance : ℕ → SeededAgent → ℕ → Type 0
IsDistance member a answer = (c : Config) (made : ℕ) (past : List Entry) → AgentFits c made past a → answer ≡ distance c past member

abbrev pub IsKnown : Stream → SeededAgent → ℕ → Type 0
IsKnown s a answer = (c : Config) (made : ℕ) (past : List Entry) → AgentFits c made past a → answer ≡ known past s

abbrev pub IsMissing : Stream → SeededAgent → ℕ → Type 0
IsMissing s a answer = (c : Config) (made : ℕ) (past : List Entry) → AgentFits c made past a → answer ≡ length (missing past s)

abbrev pub IsNextMissing : Stream → ℕ → SeededAgent → Option FullName → Type 0
IsNextMissing s after a answer = (c : Config) (made : ℕ) (past : List Entry) → AgentFits c made past a → answer ≡ next_missing past s after
