use Rattle.std.proofs.Common.{sym, subst, ◌∙◌, Some, None}
use Rattle.srm_deadlines.specs.Places.{IsLeast}
use Rattle.srm_deadlines.proofs.Following.{none_least, first_is_least}
use Rattle.srm_deadlines.proofs.ordered.OrderedDeadlines.next.Goals as goal

pub returns-in_err-first : goal.returns-in_err-first
returns-in_err-first c =
    subst (IsLeast c.args.self.now) (sym c.from_residual.ensures)
    (subst (λ places. IsLeast places None) c.self.view_is (none_least c.self.inside.agenda c.self.inside.moments c.self.invariant (sym c.first.ensures.value ∙ c.in_err-first.was)))

pub returns : goal.returns
returns c =
    subst (λ places. IsLeast places (Some c.in_ok-first.field-0.moment)) c.self.view_is
    (first_is_least c.self.inside.agenda c.self.inside.moments c.in_ok-first.field-0 c.self.invariant (sym c.first.ensures.value ∙ c.in_ok-first.was) c.in_ok-first.ensures.least)
