use Rattle.std.proofs.Common.{[], sym, ◌∙◌}
use Rattle.std.proofs.lemmas.List.{append-nil}
use Rattle.srm_world.proofs.Laning.{gains, has_room}
use Rattle.srm_world.proofs.lanes.Lanes.reserve.Goals as goal

pub returns-clause-same : goal.returns-clause-same
returns-clause-same c = rw (← c.self.view_is) (gains c.self.inside.lanes.items c.args.slot c.from.result c.index_mut.result.now c.reserve.new.self [] c.index_mut.ensures.value c.from.ensures c.requires c.self.invariant
    (c.reserve.ensures.waiting ∙ sym (append-nil _)))

pub returns-clause-ok : goal.returns-clause-ok
returns-clause-ok c = has_room _ c.self.inside.lanes.items c.args.slot c.from.result c.index_mut.result.now c.reserve.new.self c.index_mut.ensures.value c.from.ensures c.requires c.self.invariant c.reserve.ensures.ok
