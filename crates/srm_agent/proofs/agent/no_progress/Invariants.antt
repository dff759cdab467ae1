use Rattle.std.proofs.Common.{◌≡◌, ℕ, [], length, Some}
use Rattle.std.specs.Prelude.{slice_get}
use Rattle.srm_agent_state.specs.Progress.{ProgressContent, ProgressFits}
use Rattle.srm_agent.proofs.agent.no_progress.Given as goal

abbrev pub invariant-loop : goal.invariant-loop
invariant-loop l = record {
  count : length l.progress.items ≡ l.counter;
  empty : (j : ℕ) (f : ProgressContent) → slice_get l.progress.items j ≡ Some f → ProgressFits [] f;
}
