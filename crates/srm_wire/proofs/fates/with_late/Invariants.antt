use Rattle.srm_wire.proofs.Fating.{Collects}
use Rattle.srm_wire.proofs.fates.with_late.Given as goal

abbrev pub invariant-loop-number : goal.invariant-loop-number
invariant-loop-number l = Collects l.fates l.sent l.number l.initial.numbers.items l.numbers.items
