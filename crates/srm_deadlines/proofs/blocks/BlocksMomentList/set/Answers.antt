use Rattle.std.proofs.Common.{rules, sym, ◌∙◌, slice_set, ◌*◌, ◌/◌, ◌+◌}
use Rattle.srm_deadlines.specs.MomentLists.{IsLeastIn}
use Rattle.srm_deadlines.proofs.MomentLists.{least_again, least_kept, set_above, set_below}
use Rattle.srm_deadlines.proofs.blocks.BlocksMomentList.set.Goals.{then-eq, else-eq}
use Rattle.srm_deadlines.proofs.blocks.BlocksMomentList.set.Goals as goal

pub invariant_of-self : goal.invariant_of-self
invariant_of-self g c =
    let least : IsLeastIn (slice_set c.self.inside.moments.items c.args.index c.args.moment) (16 * (c.args.index / 16)) (16 * (c.args.index / 16) + 16) c.if-eq.after = elim c.if-eq.branch [
      | then-eq w ↦ least_again c.self.inside.moments.items _ c.args.index c.args.moment _ _ w.deref.ensures.value w.least_of-after.ensures w.after-is
      | else-eq w ↦ least_kept _ c.self.inside.moments.items c.args.index _ c.args.moment _ _ c.self.invariant (search rules) c.index.ensures c.get-least.ensures (sym c.eq.ensures ∙ w.if-eq.false) (w.after-is ∙ w.lesser-after.ensures)
    ] in
    set_above _ _ c.self.inside.moments.items c.args.index c.args.moment _ c.self.invariant (search rules) least c.set.ensures.each c.set.ensures.length

pub invariant_of-self-else-ne : goal.invariant_of-self-else-ne
invariant_of-self-else-ne g c =
    let least : IsLeastIn (slice_set c.self.inside.moments.items c.args.index c.args.moment) (16 * (c.args.index / 16)) (16 * (c.args.index / 16) + 16) c.if-eq.after = elim c.if-eq.branch [
      | then-eq w ↦ least_again c.self.inside.moments.items _ c.args.index c.args.moment _ _ w.deref.ensures.value w.least_of-after.ensures w.after-is
      | else-eq w ↦ least_kept _ c.self.inside.moments.items c.args.index _ c.args.moment _ _ c.self.invariant (search rules) c.index.ensures c.get-least.ensures (sym c.eq.ensures ∙ w.if-eq.false) (w.after-is ∙ w.lesser-after.ensures)
    ] in
    set_below _ c.self.inside.moments.items c.args.index c.args.moment _ _ c.self.invariant (search rules) least c.get-least.ensures (sym c.if-ne.false ∙ c.ne.ensures)
