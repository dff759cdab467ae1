-- Entries without effects.
use Rattle.std.specs.Prelude.{ℕ, [], Option, None}
use Rattle.srm_names.specs.declared.page_msg.PageMsg.{PageMsg}
use Rattle.srm_entries.specs.declared.state.AgentState.{AgentState}
use Rattle.srm_entries.specs.declared.entry.Entry.{Entry}
use Rattle.srm_entries.specs.declared.entry.Input.{Input}
use Rattle.srm_entries.specs.declared.entry.Verdict.{Verdict}

-- an entry without effects, but perhaps a message
abbrev pub entry_without_effects : ℕ → ℕ → Input → Verdict → Option PageMsg → AgentState → Entry
entry_without_effects me moment input verdict message after = record {
  member = me;
  moment = moment;
  input = input;
  verdict = verdict;
  effects = record { drawn = None; arms = []; asks = []; fixes = []; outs = []; message = message; state = after };
}
