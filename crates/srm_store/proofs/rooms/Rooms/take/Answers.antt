use Rattle.std.proofs.Common.{sym, arith, ◌∙◌}
use Rattle.srm_store.proofs.Rooming.{no_room, room_enough, others_left}
use Rattle.srm_store.proofs.rooms.Rooms.take.Goals as goal

pub returns-in-Some-clause-made : goal.returns-in-Some-clause-made
returns-in-Some-clause-made c = λ had. omega (arith, room_enough c.self.inside.rooms.items c.args.self.now c.args.name c.args.count c.in-Some.place c.remove.result c.self.view_is (sym c.position.ensures ∙ c.in-Some.is) c.remove.ensures.value, c.into_list.ensures.capacity)

pub returns-in-Some-clause-others : goal.returns-in-Some-clause-others
returns-in-Some-clause-others c = others_left c.self.inside.rooms.items c.args.self.now c.args.name c.args.count c.in-Some.place c.remove.result c.self.view_is (sym c.position.ensures ∙ c.in-Some.is) c.remove.ensures.value _ c.remove.ensures.items

pub returns-in-None-clause-made : goal.returns-in-None-clause-made
returns-in-None-clause-made c = λ had. absurd (no_room c.args.self.now c.args.name c.args.count (sym c.position.ensures ∙ c.in-None.is) had)
