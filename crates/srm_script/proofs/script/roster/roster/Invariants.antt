use Rattle.std.proofs.Common.{◌≡◌, length}
use Rattle.srm_script.proofs.Rosters.{AreSettings}
use Rattle.srm_script.proofs.script.roster.roster.Given as goal

abbrev pub invariant-loop-number : goal.invariant-loop-number
invariant-loop-number l = record {
  count : length l.configs.items ≡ l.number;
  each : AreSettings l.members 1 l.configs.items;
}
