use Rattle.std.proofs.Common.{◌≤◌, get_or, set, subst, sym, ap, ◌∙◌}
use Rattle.srm_pages.specs.Board.{CountsPosted}
use Rattle.srm_pages.specs.Seats.{MarkerView}
use Rattle.srm_pages.proofs.BoardSteps.{raises, inside_table}
use Rattle.srm_pages.proofs.marker.Marker.raise.Goals as goal

pub store-requires : goal.store-requires
store-requires c =
    let i = c.self.invariant in
    let r = c.requires in
    let same = i.0 ∙ ap (λ t. t.shared.table_id) (sym c.deref.ensures) in (
      same,
      inside_table _ _ _ same i.1 r.mine.0,
      raises _ _ _ _ _ i.2 (r.mine.1 ∙ ap (λ (m : MarkerView). m.slot) (sym c.self.view_is) ∙ sym i.3) r.mine.0 (subst (λ (m : MarkerView). get_or m.seat c.args.register 0 ≤ c.args.number) (sym c.self.view_is) r.rises) r.narrow
          (subst (λ k. CountsPosted (set c.self.inside.seat.me.0.seen c.args.register c.args.number) k) (sym i.3) (subst (λ (m : MarkerView). CountsPosted (set m.seat c.args.register c.args.number) m.slot) (sym c.self.view_is) r.order)),
    )
