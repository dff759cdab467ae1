use Rattle.srm_wire.proofs.Wiring.{wiring_more}
use Rattle.srm_wire.proofs.network.hub.Goals as goal

pub loop-me-preserved : goal.loop-me-preserved
loop-me-preserved g c = rw c.in_ok-push.ensures.items (wiring_more c.loop-me.me _ _ _ _ c.in_ok-next_wire.field-0 c.loop-me.invariant c.in_ok-next_wire.ensures)
