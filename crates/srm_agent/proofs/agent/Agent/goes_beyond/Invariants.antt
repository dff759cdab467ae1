use Rattle.std.proofs.Common.{◌≡◌, ℕ, List, drop}
use Rattle.std.specs.List.{list_any}
use Rattle.srm_entries.specs.declared.entry.Entry.{Entry}
use Rattle.srm_entries.specs.Configs.{Config}
use Rattle.srm_entries.specs.Verdicts.{is_beyond}
use Rattle.srm_agent.specs.Fits.{AgentFits}
use Rattle.srm_agent.proofs.agent.Agent.goes_beyond.Given as goal

-- what is left has one that is beyond where all of them have
abbrev pub invariant-loop-name : goal.invariant-loop-name
invariant-loop-name g l = record {
  left : (c : Config) (made : ℕ) (past : List Entry) → AgentFits c made past l.fn.self → list_any (is_beyond c.me past) (drop l.name-index l.names) ≡ list_any (is_beyond c.me past) l.names;
}
