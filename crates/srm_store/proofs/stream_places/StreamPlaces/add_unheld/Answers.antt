use Rattle.std.proofs.Common.{arith, ap, sym, ◌∙◌}
use Rattle.std.specs.Prelude.{vec_len, vec_capacity}
use Rattle.std.specs.Vec.{vec_items}
use Rattle.srm_store.proofs.Unheld.{unheld_none, unheld_some}
use Rattle.srm_store.proofs.stream_places.StreamPlaces.add_unheld.Goals as goal
use Rattle.srm_store.proofs.stream_places.StreamPlaces.add_unheld.Goals.{in-Some+in_ok-push, in_default}

pub loop-done-preserved : goal.loop-done-preserved
loop-done-preserved c = elim c.match-unheld.branch [
  | in-Some+in_ok-push w ↦ record {
    so_far = ap vec_items w.names-is ∙ unheld_some c.args.self.now c.args.stream.now c.args.after c.loop-done.done c.args.names.items _ c.loop-done.invariant.so_far w.in-Some.name _ w.in-Some.ensures w.in_ok-push.ensures.items;
    few = omega (arith, ap vec_len w.names-is, w.in_ok-push.ensures.upper_bound, c.loop-done.invariant.few);
    room = omega (arith, ap vec_capacity w.names-is, w.in_ok-push.ensures.capacity, c.loop-done.invariant.room);
  }
  | in_default w ↦ record {
    so_far = ap vec_items w.names-is ∙ unheld_none c.args.self.now c.args.stream.now c.args.after c.loop-done.done c.args.names.items _ c.loop-done.invariant.so_far (sym w.in_default.is ∙ c.unheld.ensures);
    few = omega (arith, ap vec_len w.names-is, c.loop-done.invariant.few);
    room = omega (arith, ap vec_capacity w.names-is, c.loop-done.invariant.room);
  }
]
