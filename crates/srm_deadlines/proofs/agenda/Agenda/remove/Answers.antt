use Rattle.srm_names.specs.Names.{same_name}
use Rattle.std.specs.Prelude.{if◌then◌else◌}
use Rattle.std.proofs.Common.{sym, ap, subst, ◌∙◌, ◌≡◌, ◌<◌, length, get_or, Err, [], ◌∷◌, rules}
use Rattle.std.specs.List.{remove}
use Rattle.std.specs.List.Sorted.{IsBinarySearchResult}
use Rattle.srm_deadlines.specs.declared.timed.Timed.{Timed}
use Rattle.srm_deadlines.specs.Agenda.{Agenda, of_name, timed_for, timed_order}
use Rattle.srm_deadlines.proofs.Agendas.{removed, has_of_name}
use Rattle.srm_deadlines.proofs.Orders.{IsInOrder, timed_equal, taken_in_order, found_there}
use Rattle.srm_deadlines.proofs.agenda.Agenda.remove.Goals as goal

pub invariant_of-self : goal.invariant_of-self
invariant_of-self c =
    let within : c.in-Ok.place < length c.self.inside.pairs.items = search rules in
    subst IsInOrder (sym c.remove.ensures.items) (taken_in_order _ c.in-Ok.place within c.self.invariant)

pub returns-in-Ok-clause-each : goal.returns-in-Ok-clause-each
returns-in-Ok-clause-each c =
    let t : Timed = record { moment = c.in-Some.moment; name = c.args.name } in
    let within : c.in-Ok.place < length c.self.inside.pairs.items = search rules in
    let at : get_or c.self.inside.pairs.items c.in-Ok.place t ≡ t = timed_equal _ _ (ap (λ xs. timed_order (get_or xs c.in-Ok.place t) t) (sym c.deref.ensures.value) ∙ c.in-Ok.ensures.ok t) in
    let there : of_name c.args.name c.self.inside.pairs.items ≡ t ∷ [] =
    ap (λ (a : Agenda). of_name c.args.name a.pairs) c.self.view_is ∙ c.requires.there ∙ ap (timed_for c.args.name) c.in-Some.is in
    λ n. ap (of_name n) c.remove.ensures.items ∙ removed c.self.inside.pairs.items c.in-Ok.place t within at there n
    ∙ ap (λ (a : Agenda). if same_name n c.args.name then [] else of_name n a.pairs) c.self.view_is

pub returns-in_default-binary_search-clause-each : goal.returns-in_default-binary_search-clause-each
returns-in_default-binary_search-clause-each c =
    let t : Timed = record { moment = c.in-Some.moment; name = c.args.name } in
    let there : of_name c.args.name c.deref.result.now ≡ t ∷ [] =
    ap (of_name c.args.name) c.deref.ensures.value ∙ ap (λ (a : Agenda). of_name c.args.name a.pairs) c.self.view_is ∙ c.requires.there ∙ ap (timed_for c.args.name) c.in-Some.is in
    let found : IsBinarySearchResult (λ (x : Timed). timed_order x t) c.deref.result.now (Err c.in_default-binary_search.field-0) =
    subst (IsBinarySearchResult (λ (x : Timed). timed_order x t) c.deref.result.now) c.in_default-binary_search.is c.binary_search.ensures.position in
    absurd (found_there c.deref.result.now t c.in_default-binary_search.field-0 (has_of_name c.args.name t c.deref.result.now there) (subst IsInOrder (sym c.deref.ensures.value) c.self.invariant) found)
