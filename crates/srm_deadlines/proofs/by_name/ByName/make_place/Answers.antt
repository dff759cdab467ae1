use Rattle.std.proofs.Common.{None, sym, ap, ◌∙◌}
use Rattle.srm_deadlines.specs.Places.{has_place}
use Rattle.srm_deadlines.proofs.Tables.{refused, keeps_from, holds_from, given_from, place_from, place_found}
use Rattle.srm_deadlines.proofs.Puts.{adds_none}
use Rattle.srm_deadlines.proofs.by_name.ByName.make_place.Goals as goal

pub returns-in_err-insert-clause-again : goal.returns-in_err-insert-clause-again
returns-in_err-insert-clause-again g c = λ has. absurd (refused _ c.args.name _ c.self.view_is (sym c.contains_key.ensures ∙ c.if-not-contains_key.true) has)

pub returns-in_ok-insert-clause-kept : goal.returns-in_ok-insert-clause-kept
returns-in_ok-insert-clause-kept g c = keeps_from _ c.args.name _ _ c.self.view_is (sym c.contains_key.ensures ∙ c.if-not-contains_key.true) (record { each = c.in_ok-insert.ensures.updates.0 })

pub returns-in_ok-insert-clause-keeps_places : goal.returns-in_ok-insert-clause-keeps_places
returns-in_ok-insert-clause-keeps_places g c = holds_from _ c.args.name None _ _ c.self.view_is (record { each = c.in_ok-insert.ensures.updates.0 })

pub returns-in_ok-insert-clause-only : goal.returns-in_ok-insert-clause-only
returns-in_ok-insert-clause-only g c = given_from _ c.args.name None _ _ c.self.view_is (record { each = c.in_ok-insert.ensures.updates.0 })

pub returns-in_ok-insert-clause-ok : goal.returns-in_ok-insert-clause-ok
returns-in_ok-insert-clause-ok g c = place_from c.args.name None _ _ (record { each = c.in_ok-insert.ensures.updates.0 })

pub returns-else-not-contains_key-clause-ok : goal.returns-else-not-contains_key-clause-ok
returns-else-not-contains_key-clause-ok g c = ap (λ places. has_place places c.args.name) (sym c.self.view_is) ∙ place_found _ c.args.name ∙ sym c.contains_key.ensures ∙ c.if-not-contains_key.false

pub returns-in_ok-insert-clause-values : goal.returns-in_ok-insert-clause-values
returns-in_ok-insert-clause-values g c = adds_none _ _ _ c.args.name c.self.view_is (sym c.contains_key.ensures ∙ c.if-not-contains_key.true) c.in_ok-insert.ensures.entries
