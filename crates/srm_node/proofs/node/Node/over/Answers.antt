use Rattle.std.proofs.Common.{ap}
use Rattle.srm_world.specs.Traces.{Journal}
use Rattle.srm_node.proofs.Closing.{none_closed}
use Rattle.srm_node.proofs.Keeping.{keeps_new}
use Rattle.srm_node.proofs.node.Node.over.Goals as goal

pub invariant_of-result : goal.invariant_of-result
invariant_of-result g c = record {
  lists = keeps_new _ _ _ (ap (λ (j : Journal). j.entries) c.requires.recorder.is) c.requires.feeds c.requires.well;
  settings = ap (λ (j : Journal). j.start.config) c.requires.recorder.is;
  room_is = c.in_ok-buffer.ensures.buffer;
  closed_are = none_closed _ _ c.requires.feeds c.in_ok-buffer.ensures.closed;
}
