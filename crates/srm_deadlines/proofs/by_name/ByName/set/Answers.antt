use Rattle.srm_deadlines.proofs.Tables.{sets_from, holds_from, given_from, none_given, not_refused, same_length}
use Rattle.srm_deadlines.proofs.by_name.ByName.set.Goals as goal

pub returns-clause-sets : goal.returns-clause-sets
returns-clause-sets g c = sets_from _ c.args.name _ _ _ c.self.view_is
    (record { each = (not_refused _ _ _ c.args.name _ c.self.view_is c.requires c.insert.ensures.absent c.insert.ensures.updates).0 })

pub returns-clause-keeps_places : goal.returns-clause-keeps_places
returns-clause-keeps_places g c = holds_from _ c.args.name _ _ _ c.self.view_is
    (record { each = (not_refused _ _ _ c.args.name _ c.self.view_is c.requires c.insert.ensures.absent c.insert.ensures.updates).0 })

pub returns-clause-only : goal.returns-clause-only
returns-clause-only g c = none_given c.args.name _ _ c.requires (given_from _ c.args.name _ _ _ c.self.view_is
    (record { each = (not_refused _ _ _ c.args.name _ c.self.view_is c.requires c.insert.ensures.absent c.insert.ensures.updates).0 }))

pub returns-clause-length : goal.returns-clause-length
returns-clause-length g c = same_length _ _ c.args.name _ _ c.self.view_is c.requires c.insert.ensures.absent c.insert.ensures.old c.insert.ensures.len
