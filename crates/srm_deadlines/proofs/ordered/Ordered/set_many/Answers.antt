use Rattle.std.proofs.Common.{sym, subst, ◌≤◌, ◌+◌, length, arith}
use Rattle.srm_deadlines.specs.Places.{HasPlaces, names_of}
use Rattle.srm_deadlines.proofs.Following.{room_for_all, follows_all}
use Rattle.srm_deadlines.proofs.ordered.Ordered.set_many.Goals as goal

pub extend-requires-clause-room : goal.extend-requires-clause-room
extend-requires-clause-room c =
    let k : length c.remove_timed.new.self.pairs + length c.args.moments.now ≤ length c.self.inside.moments =
    room_for_all c.self.inside.agenda c.self.inside.moments _ c.args.moments.now c.self.invariant
    (subst (HasPlaces (names_of c.args.moments.now)) (sym c.self.view_is) c.requires.places) c.requires.rising c.remove_timed.ensures.each in
    let l = c.self.invariant.room in
    let m = c.remove_timed.ensures.room in
    omega arith

pub invariant_of-self : goal.invariant_of-self
invariant_of-self c = follows_all c.self.inside.agenda _ _ c.self.inside.moments _ c.args.moments.now c.self.invariant c.remove_timed.ensures.each c.extend.ensures.each
    c.set_all.ensures.sets c.set_all.ensures.length c.remove_timed.ensures.room c.extend.ensures.room
