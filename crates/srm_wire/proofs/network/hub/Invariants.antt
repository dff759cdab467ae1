use Rattle.std.specs.Prelude.{map}
use Rattle.srm_wire.proofs.Wiring.{Wiring}
use Rattle.srm_wire.proofs.network.hub.Given as goal

abbrev pub invariant-loop-me : goal.invariant-loop-me
invariant-loop-me g l = Wiring l.me (map (λ own. own.items) l.initial.fates.items) (map (λ own. own.items) l.fates.items) l.wires.items
