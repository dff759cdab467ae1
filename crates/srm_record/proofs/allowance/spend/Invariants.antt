use Rattle.std.proofs.Common.{◌≡◌, ◌+◌, take}
use Rattle.srm_record.specs.Allowances.{timers_in}
use Rattle.srm_record.proofs.allowance.spend.Given as goal

abbrev pub invariant-loop-entry : goal.invariant-loop-entry
invariant-loop-entry l = l.left + timers_in (take l.entry-index l.added) ≡ l.initial.left
