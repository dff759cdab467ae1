-- Whether an agent admits a draw, over all runs that it fits.
use Rattle.std.specs.Prelude.{ℕ, Bool, List, Option}
use Rattle.srm_entries.specs.Configs.{Config}
use Rattle.srm_entries.specs.declared.entry.Entry.{Entry}
use Rattle.srm_entries.specs.Admitting.{AdmitsDraw, AdmitsDrawFrom}
use Rattle.srm_agent.specs.Contents.{AgentContent}
use Rattle.srm_agent.specs.Fits.{AgentFits}

-- after whatever run the agent fits, a draw is admitted at this moment, or isn't
pub record DrawAdmitted {W : Type 0} (body now : ℕ) (a : AgentContent W) (answer : Bool) : Type 0 where
  pub each : (c : Config) (made : ℕ) (past : List Entry) → AgentFits c made past a → AdmitsDraw c made past body now answer

-- and this is the first moment at which it is
pub record DrawAdmittedFrom {W : Type 0} (body : ℕ) (a : AgentContent W) (first : Option ℕ) : Type 0 where
  pub each : (c : Config) (made : ℕ) (past : List Entry) → AgentFits c made past a → AdmitsDrawFrom c made past body first
