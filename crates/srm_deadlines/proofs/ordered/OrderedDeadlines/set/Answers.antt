use Rattle.std.proofs.Common.{sym, subst, ◌≡◌, ◌<◌, length, true, arith}
use Rattle.srm_deadlines.specs.Places.{has_place}
use Rattle.srm_deadlines.proofs.Following.{room_for_one}
use Rattle.srm_deadlines.proofs.ordered.OrderedDeadlines.set.Goals as goal

pub insert-requires-clause-room : goal.insert-requires-clause-room
insert-requires-clause-room c =
    let k : length c.remove.new.self.pairs < length c.self.inside.moments = room_for_one c.self.inside.agenda c.self.inside.moments _ c.args.name c.self.invariant
    (subst (λ places. has_place places c.args.name ≡ true) (sym c.self.view_is) c.requires) c.remove.ensures.each in
    let l = c.self.invariant.room in
    let m = c.remove.ensures.room in
    omega arith
