use Rattle.std.proofs.Common.{sym, ap, ◌∙◌}
use Rattle.srm_pages.proofs.BoardSteps.{next_tap, has_words}
use Rattle.srm_pages.proofs.dealer.Dealer.marker.Goals as goal

pub split_seat-seat-requires : goal.split_seat-seat-requires
split_seat-seat-requires c =
    let i = c.self.invariant in
    let same = i.0 ∙ ap (λ t. t.shared.table_id) (sym c.deref.ensures) in
    (same, has_words _ _ same i.1, next_tap _ _ i.2)
