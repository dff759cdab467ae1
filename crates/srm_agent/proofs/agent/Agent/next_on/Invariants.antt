use Rattle.std.proofs.Common.{◌≡◌, ◌<◌, ℕ, List, Some, false}
use Rattle.srm_names.specs.declared.page_msg.PageMsg.{PageMsg}
use Rattle.srm_entries.specs.declared.entry.Entry.{Entry}
use Rattle.srm_entries.specs.Configs.{Config}
use Rattle.srm_agent_state.specs.Progress.{ProgressFits}
use Rattle.srm_agent.specs.Fits.{AgentFits}
use Rattle.srm_entries.specs.Giving.{has_more}
use Rattle.srm_agent.proofs.agent.Agent.next_on.Given as goal

abbrev pub invariant-loop-number : goal.invariant-loop-number
invariant-loop-number g l = record {
  none : (c : Config) (made : ℕ) (past : List Entry) (given : List PageMsg) → AgentFits c made past l.fn.self → ProgressFits given l.fn.progress → (source : ℕ) → source < l.number → has_more past given (Some l.fn.page) source ≡ false;
}
