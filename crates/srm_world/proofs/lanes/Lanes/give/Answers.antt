use Rattle.std.proofs.Common.{[], ◌∷◌}
use Rattle.srm_world.proofs.Laning.{gains}
use Rattle.srm_world.proofs.lanes.Lanes.give.Goals as goal

pub returns-in-Some : goal.returns-in-Some
returns-in-Some c = rw (c.in-Some.is, ← c.self.view_is) (gains c.self.inside.lanes.items c.args.slot c.from.result c.index_mut.result.now c.give.new.self (c.in-Some.message ∷ []) c.index_mut.ensures.value c.from.ensures c.requires.slot c.self.invariant c.give.ensures)
