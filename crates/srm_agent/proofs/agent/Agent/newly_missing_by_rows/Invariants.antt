use Rattle.std.proofs.Common.{◌≡◌, ℕ, List, take}
use Rattle.std.specs.Prelude.{true}
use Rattle.std.specs.List.{list_any}
use Rattle.srm_names.specs.FullName.{FullName}
use Rattle.srm_names.specs.Names.{same_stream, name_below, ascending, among}
use Rattle.srm_entries.specs.declared.entry.Entry.{Entry}
use Rattle.srm_entries.specs.Configs.{Config}
use Rattle.srm_agent.specs.Fits.{AgentFits}
use Rattle.srm_agent.specs.Growth.{is_newly_missing_by_rows}
use Rattle.srm_agent.proofs.agent.Agent.newly_missing_by_rows.Given as goal

abbrev pub invariant-loop-row : goal.invariant-loop-row
invariant-loop-row g l = record {
  rising : ascending name_below l.newly_missing.items ≡ true;
  within : (n : FullName) → among l.newly_missing.items n ≡ true → list_any (λ (x : FullName). same_stream n.stream x.stream) (take l.row-index l.rows) ≡ true;
  exact : (c : Config) (made : ℕ) (past : List Entry) → AgentFits c made past l.fn.self → (n : FullName) → among l.newly_missing.items n ≡ is_newly_missing_by_rows past (take l.row-index l.rows) n;
}
