use Rattle.std.proofs.Common.{sym, ap, ◌∙◌}
use Rattle.srm_pages.proofs.BoardSteps.{looks, inside_table}
use Rattle.srm_pages.proofs.lookout.Lookout.look.Goals as goal

pub load-requires : goal.load-requires
load-requires c =
    let i = c.self.invariant in
    let same = i.0 ∙ ap (λ t. t.shared.table_id) (sym c.deref.ensures) in
    (same, inside_table _ _ _ same i.1 c.requires, looks _ _ _ _ c.requires)
