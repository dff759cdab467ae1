use Rattle.srm_world.proofs.Laning.{loses}
use Rattle.srm_world.proofs.lanes.Lanes.take.Goals as goal

pub returns : goal.returns
returns c = rw (← c.self.view_is) (loses c.self.inside.lanes.items c.args.slot c.from.result c.index_mut.result.now c.take.new.self c.take.result c.index_mut.ensures.value c.from.ensures c.requires c.self.invariant c.take.ensures.oldest c.take.ensures.rest)
